use Rattle.std.proofs.Common.{vec_items, ◌≡◌, ◌+◌, List, ◌∷◌, get_or, drop, sym, ap, ◌∙◌}
use Rattle.std.proofs.lemmas.List.{at_drop_more, at_drop_all}
use Rattle.boards.specs.Nets.{net_legs}
use Rattle.planner.specs.Checks.{is_order}
use Rattle.planner.specs.Spots.{down_in}
use Rattle.planner.specs.declared.rows.Spot.{Spot}
use Rattle.planner.proofs.OrderSteps.{down_in-elsewhere, is_order-fails, is_order-goes_on, is_order-begins}
use Rattle.planner.proofs.Seen.{unseen, unseen-none}
use Rattle.planner.proofs.table.Table.is_order.Goals.{then-row-bus+else-not-is_new, else-row-bus}
use Rattle.planner.proofs.table.Table.is_order.Goals as goal

abbrev none : Spot
none = record { bus = 0; message = 0 }

pub loop-row-init : goal.loop-row-init
loop-row-init c =
    is_order-begins c.args.rows.now c.args.bus c.empty-seen.result.bits (net_legs (vec_items c.args.self.now.messages) c.args.bus) c.empty-seen.ensures

pub returns-then-not-is_new : goal.returns-then-not-is_new
returns-then-not-is_new c =
    let ms = (vec_items c.args.self.now.messages) in
    let rows = c.args.rows.now in
    let bus = c.args.bus in
    let i = c.loop-row.row-index in
    let bits = c.loop-row.seen.bits in
    sym
    (at_drop_more (λ (l : List Spot). is_order (down_in l bus) (unseen bits (net_legs ms bus))) rows i none c.loop-row-test.true
    ∙ is_order-fails ms bus bits (get_or rows i none) (drop (i + 1) rows) c.if-row-bus.true c.if-not-is_new.ensures)
    ∙ c.loop-row.invariant

pub loop-row-preserved : goal.loop-row-preserved
loop-row-preserved c =
    let ms = (vec_items c.args.self.now.messages) in
    let rows = c.args.rows.now in
    let bus = c.args.bus in
    let i = c.loop-row.row-index in
    let bits = c.loop-row.seen.bits in
    let l = net_legs ms bus in
    let step = at_drop_more (λ (l : List Spot). is_order (down_in l bus) (unseen bits (net_legs ms bus))) rows i none c.loop-row-test.true in
    let go : is_order (down_in (get_or rows i none ∷ drop (i + 1) rows) bus) (unseen bits l) ≡ is_order (down_in (drop (i + 1) rows) bus) (unseen c.if-row-bus.seen.bits l) =
    elim c.if-row-bus.branch [
      | then-row-bus+else-not-is_new w ↦
          is_order-goes_on ms bus bits (get_or rows i none) (drop (i + 1) rows) w.if-row-bus.true w.with-seen.result.bits w.if-not-is_new.ensures w.with-seen.ensures
          ∙ sym (ap (λ s. is_order (down_in (drop (i + 1) rows) bus) (unseen s.bits l)) w.seen-is)
      | else-row-bus w ↦
          ap (λ o. is_order o (unseen bits l)) (down_in-elsewhere (get_or rows i none) (drop (i + 1) rows) bus w.if-row-bus.false)
          ∙ sym (ap (λ s. is_order (down_in (drop (i + 1) rows) bus) (unseen s.bits l)) w.seen-is)
    ]
    in
    sym (step ∙ go) ∙ c.loop-row.invariant

pub returns : goal.returns
returns c =
    let bits = c.loop-row.seen.bits in
    let l = net_legs (vec_items c.args.self.now.messages) c.args.bus in
    c.all_seen.ensures
    ∙ sym (unseen-none bits l)
    ∙ sym (at_drop_all (λ (rs : List Spot). is_order (down_in rs c.args.bus) (unseen bits l)) c.args.rows.now c.loop-row.row-index c.loop-row-test.false)
    ∙ c.loop-row.invariant
