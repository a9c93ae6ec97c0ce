use Rattle.std.proofs.Common.{rules, ◌∙◌, map, vec_items, eqb, sym, ap, subst, arith}
use Rattle.std.proofs.lemmas.List.{append-nil}
use Rattle.planner.specs.BusOrders.{order_on, Sees}
use Rattle.planner.proofs.RankedNumbers.{inside-ranked, order_on-few}
use Rattle.planner.proofs.Rising.{rising_messages-few}
use Rattle.planner.proofs.SeenLegs.{came, came-more, came-next, came-all, order_on-longer, written-rows_step, written-rows_done}
use Rattle.planner.proofs.Written.{written-none}
use Rattle.planner.proofs.found.Found.write_bus.Goals as goal

pub loop-leg-init : goal.loop-leg-init
loop-leg-init g c = record { left = append-nil _ ∙ search rules; sees = c.none-seen.ensures c.args.bus; rows = written-none c.args.at c.args.rows.now }

pub write_leg-requires : goal.write_leg-requires
write_leg-requires g c =
    let all = came-next _ _ _ _ _ c.in-Some.ensures.steps c.loop-leg.invariant.left in
    λ on. omega (arith, c.loop-leg.invariant.sees.count, order_on-longer _ _ _ _ c.args.bus all on)

pub with-seen-requires : goal.with-seen-requires
with-seen-requires g c =
    let found = c.args.self.now in
    let table = found.network.now.table in
    let ms = vec_items table.messages in
    let all = came-next _ _ _ _ _ c.in-Some.ensures.steps c.loop-leg.invariant.left in
    let few = order_on-few ms found.ranked.now c.args.bus (rising_messages-few ms table.rises) found.legs found.once in
    record {
      room = λ on. omega (arith, few, c.loop-leg.invariant.sees.count, order_on-longer _ _ _ _ c.args.bus all on);
      number = inside-ranked ms _ _ _ _ all found.legs;
    }

pub loop-leg-preserved : goal.loop-leg-preserved
loop-leg-preserved g c =
    let network = c.args.self.now.network.now in
    let bus = c.args.bus in
    let leg = c.in-Some.leg.now in
    let all = came-next _ _ _ _ _ c.in-Some.ensures.steps c.loop-leg.invariant.left in
    let more = came-more c.loop-leg.yielded c.in-Some.leg in
    let next = ap (λ l. order_on l bus) more in
    record {
      left = rw more all;
      sees = subst (λ o. Sees bus o c.with-seen.result) (sym next) (c.with-seen.ensures _ c.loop-leg.invariant.sees);
      rows =
          written-rows_step (map g.R.BusRule.answer network.rules.now) network.gateway (vec_items network.table.messages) bus (eqb leg.bus bus) leg.message
          (order_on (came c.loop-leg.yielded) bus) _ c.loop-leg.seen c.args.at c.args.rows.now c.loop-leg.rows c.write_leg.new.rows
          c.loop-leg.invariant.sees (λ on. omega (arith, order_on-longer _ _ _ _ bus all on)) next c.loop-leg.invariant.rows c.write_leg.ensures;
    }

pub returns-clause-rows : goal.returns-clause-rows
returns-clause-rows g c =
    let network = c.args.self.now.network.now in
    let bus = c.args.bus in
    let all = ap (λ l. order_on l bus) (came-all _ _ _ c.in-None.ensures.steps.0 c.loop-leg.invariant.left) in
    written-rows_done (map g.R.BusRule.answer network.rules.now) network.gateway (vec_items network.table.messages) bus _ _ c.from.result c.args.at
    c.args.rows.now c.loop-leg.rows all (omega (arith, c.loop-leg.invariant.sees.count)) c.loop-leg.invariant.rows
