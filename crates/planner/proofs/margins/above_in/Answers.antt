use Rattle.std.proofs.Common.{◌≡◌, ℕ, ◌+◌, ◌||◌, List, ◌∷◌, get_or, drop, sym, ap, ◌∙◌}
use Rattle.std.proofs.Math.Bool.{or-false}
use Rattle.std.proofs.lemmas.List.{at_drop_more}
use Rattle.bus.specs.Numbered.{member}
use Rattle.search.specs.Net.{has}
use Rattle.boards.specs.Nets.{leg_at}
use Rattle.planner.specs.Spots.{down_in}
use Rattle.planner.specs.declared.rows.Spot.{Spot}
use Rattle.planner.proofs.OrderSteps.{down_in-elsewhere}
use Rattle.planner.proofs.RowsAhead.{named_ahead, named_ahead-means, named_ahead-elsewhere, has-down_in_found, named_ahead-none, has-down_in_other, named_ahead-more}
use Rattle.planner.proofs.margins.above_in.Goals.{then-row-bus+else-row-message, else-row-bus}
use Rattle.planner.proofs.margins.above_in.Goals as goal

abbrev none : Spot
none = record { bus = 0; message = 0 }

pub returns-then-row-message : goal.returns-then-row-message
returns-then-row-message c =
    let rows = c.args.rows.now in
    let bus = c.args.bus in
    let n = c.args.message in
    let i = c.loop-row.row-index in
    let r = get_or rows i none in
    let rest = drop (i + 1) rows in (
      sym c.loop-row.invariant.0
          ∙ at_drop_more (λ (l : List Spot). has (leg_at bus n) (down_in l bus)) rows i none c.loop-row-test.true
          ∙ has-down_in_found bus n r rest c.if-row-bus.true c.if-row-message.true,
      λ k.
          sym (ap (λ t. member c.loop-row.above.bits k || t) (named_ahead-none bus n r rest c.if-row-bus.true c.if-row-message.true k) ∙ or-false _)
          ∙ sym (ap (λ t. member c.loop-row.above.bits k || t) (at_drop_more (λ (l : List Spot). named_ahead l bus n k) rows i none c.loop-row-test.true))
          ∙ c.loop-row.invariant.1 k
          ∙ named_ahead-means rows bus n k,
    )

pub loop-row-preserved : goal.loop-row-preserved
loop-row-preserved c =
    let rows = c.args.rows.now in
    let bus = c.args.bus in
    let n = c.args.message in
    let i = c.loop-row.row-index in
    let r = get_or rows i none in
    let rest = drop (i + 1) rows in
    let x = leg_at bus n in
    let found : has x (down_in rest bus) ≡ has x (down_in (r ∷ rest) bus) =
    elim c.if-row-bus.branch [
      | then-row-bus+else-row-message w ↦ sym (has-down_in_other bus n r rest w.if-row-bus.true w.if-row-message.false)
      | else-row-bus w ↦ sym (ap (has x) (down_in-elsewhere r rest bus w.if-row-bus.false))
    ]
    in
    let above : (k : ℕ) → (member c.if-row-bus.above.bits k || named_ahead rest bus n k) ≡ (member c.loop-row.above.bits k || named_ahead (r ∷ rest) bus n k) =
    λ k. elim c.if-row-bus.branch [
      | then-row-bus+else-row-message w ↦
          ap (λ s. member s.bits k || named_ahead rest bus n k) w.above-is
          ∙ named_ahead-more bus n r rest w.if-row-bus.true w.if-row-message.false c.loop-row.above.bits w.with-above.result.bits w.with-above.ensures k
      | else-row-bus w ↦
          ap (λ s. member s.bits k || named_ahead rest bus n k) w.above-is
          ∙ ap (λ t. member c.loop-row.above.bits k || t) (sym (named_ahead-elsewhere bus n r rest w.if-row-bus.false k))
    ]
    in (
      found ∙ sym (at_drop_more (λ (l : List Spot). has x (down_in l bus)) rows i none c.loop-row-test.true) ∙ c.loop-row.invariant.0,
      λ k. above k
          ∙ sym (ap (λ t. member c.loop-row.above.bits k || t) (at_drop_more (λ (l : List Spot). named_ahead l bus n k) rows i none c.loop-row-test.true))
          ∙ c.loop-row.invariant.1 k,
    )
