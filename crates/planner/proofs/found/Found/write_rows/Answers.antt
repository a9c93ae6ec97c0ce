use Rattle.std.proofs.Common.{◌≡◌, ◌+◌, ◌-◌, map, vec_items, subst, arith}
use Rattle.planner.specs.Networks.{net_on}
use Rattle.planner.proofs.BusRules.{length-rules_of}
use Rattle.planner.proofs.AllRows.{Filled, Filled-step, rows_to-room, Filled-all}
use Rattle.planner.proofs.found.Found.write_rows.Goals as goal

pub write_bus-at-requires : goal.write_bus-at-requires
write_bus-at-requires g c =
    let net = net_on g.R.BusRule.answer c.args.self.now.network.now in
    omega (arith, c.loop-bus.invariant.written.0, rows_to-room net c.args.self.now.ranked.now c.loop-bus.bus c.loop-bus.auto.bus)

pub loop-bus-preserved : goal.loop-bus-preserved
loop-bus-preserved g c =
    let net = net_on g.R.BusRule.answer c.args.self.now.network.now in
    let rs = c.args.self.now.ranked.now in
    let bus = c.loop-bus.bus in
    let e : bus ≡ bus + 1 - 1 = omega arith in
    record {
      within = omega arith;
      written =
          subst (λ k. Filled net rs k c.write_bus-at.result c.args.rows.now c.write_bus-at.new.rows) e
          (Filled-step net rs bus c.loop-bus.at c.write_bus-at.result c.args.rows.now c.loop-bus.rows c.write_bus-at.new.rows c.loop-bus.auto.bus
          c.loop-bus.invariant.written c.write_bus-at.ensures.end c.write_bus-at.ensures.rows);
    }

-- after the last bus
pub returns-2 : goal.returns-2
returns-2 g c =
    let network = c.args.self.now.network.now in
    let rs = c.args.self.now.ranked.now in
    let all =
    Filled-all (vec_items network.table.messages) rs c.args.self.now.legs (map g.R.BusRule.answer network.rules.now) network.gateway
    c.loop-bus.bus c.write_bus-at.result c.args.rows.now c.write_bus-at.new.rows
    (omega (arith, length-rules_of g.R.BusRule.answer network))
    (Filled-step (net_on g.R.BusRule.answer network) rs c.loop-bus.bus c.loop-bus.at c.write_bus-at.result c.args.rows.now c.loop-bus.rows c.write_bus-at.new.rows
    c.loop-bus.auto.bus c.loop-bus.invariant.written c.write_bus-at.ensures.end c.write_bus-at.ensures.rows)
    in record { count = all.0; rows = all.1 }
