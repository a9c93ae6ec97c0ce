use Rattle.std.proofs.Common.{rules, ◌∙◌, refl, map, vec_items, eqb, sym, ap, subst, arith}
use Rattle.std.proofs.lemmas.List.{append-nil}
use Rattle.planner.specs.BusOrders.{order_on, Sees}
use Rattle.planner.specs.Networks.{net_on}
use Rattle.planner.proofs.BusRules.{length-rules_of}
use Rattle.planner.proofs.RankedNumbers.{inside-ranked, order_on-few}
use Rattle.planner.proofs.Rising.{rising_messages-few}
use Rattle.planner.proofs.RowPlaces.{row_at-not_yet, row_at-found, row_at-missing}
use Rattle.planner.proofs.SeenLegs.{came, came-more, came-next, came-all, order_on-longer}
use Rattle.planner.proofs.found.Found.find_row.Goals as goal

pub loop-leg-init : goal.loop-leg-init
loop-leg-init g c = record { left = append-nil _ ∙ search rules; sees = c.none-seen.ensures c.args.spot.bus; none = refl }

pub returns-then-is_leg : goal.returns-then-is_leg
returns-then-is_leg g c =
    let network = c.args.self.now.network.now in
    let all = came-next _ _ _ _ _ c.in-Some.ensures.steps c.loop-leg.invariant.left in
    row_at-found (vec_items network.table.messages) c.args.self.now.ranked.now c.args.self.now.legs (map g.R.BusRule.answer network.rules.now) network.gateway
    c.args.spot.bus c.args.spot.message c.requires.0 (omega (arith, c.requires.1, length-rules_of g.R.BusRule.answer network)) _ _ _
    c.loop-leg.seen c.row_below.result all c.loop-leg.invariant.sees c.loop-leg.invariant.none c.if-is_leg.ensures c.row_below.ensures

pub with-seen-requires : goal.with-seen-requires
with-seen-requires g c =
    let found = c.args.self.now in
    let table = found.network.now.table in
    let ms = vec_items table.messages in
    let all = came-next _ _ _ _ _ c.in-Some.ensures.steps c.loop-leg.invariant.left in
    let few = order_on-few ms found.ranked.now c.args.spot.bus (rising_messages-few ms table.rises) found.legs found.once in
    record {
      room = λ on. omega (arith, few, c.loop-leg.invariant.sees.count, order_on-longer _ _ _ _ c.args.spot.bus all on);
      number = inside-ranked ms _ _ _ _ all found.legs;
    }

pub loop-leg-preserved : goal.loop-leg-preserved
loop-leg-preserved g c =
    let bus = c.args.spot.bus in
    let leg = c.in-Some.leg.now in
    let all = came-next _ _ _ _ _ c.in-Some.ensures.steps c.loop-leg.invariant.left in
    let more = came-more c.loop-leg.yielded c.in-Some.leg in
    let next = ap (λ l. order_on l bus) more in
    record {
      left = rw more all;
      sees = subst (λ o. Sees bus o c.with-seen.result) (sym next) (c.with-seen.ensures _ c.loop-leg.invariant.sees);
      none =
          row_at-not_yet bus c.args.spot.message (net_on g.R.BusRule.answer c.args.self.now.network.now) (eqb leg.bus bus) leg.message
          (order_on (came c.loop-leg.yielded) bus) _ c.if-is_leg.ensures next c.loop-leg.invariant.none;
    }

pub returns : goal.returns
returns g c =
    let network = c.args.self.now.network.now in
    row_at-missing (vec_items network.table.messages) c.args.self.now.ranked.now c.args.self.now.legs (map g.R.BusRule.answer network.rules.now) network.gateway
    c.args.spot.bus c.args.spot.message c.requires.0 (omega (arith, c.requires.1, length-rules_of g.R.BusRule.answer network)) _
    (came-all _ _ _ c.in-None.ensures.steps.0 c.loop-leg.invariant.left) c.loop-leg.invariant.none
