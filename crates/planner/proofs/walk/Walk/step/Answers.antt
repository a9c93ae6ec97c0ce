use Rattle.std.proofs.Common.{Some, None}
use Rattle.planner.specs.Stages.{spot_leg, reached}
use Rattle.planner.proofs.FitOnBoard.{try_once-from_fit}
use Rattle.planner.proofs.walk.Walk.step.Goals as goal

pub returns-in-Some : goal.returns-in-Some
returns-in-Some g c =
    let w = c.rank.new.self in
    try_once-from_fit g.R.BusRule.answer c.args.network.now c.args.self.now.ranked.items c.deref.result.now c.deref.ensures.value (spot_leg c.args.spot)
    (Some c.in-Some.delay) c.in-Some.ensures (reached w.ranked.items w.stage) c.rank.ensures

pub returns-in-None : goal.returns-in-None
returns-in-None g c =
    let w = c.pass.new.self in
    try_once-from_fit g.R.BusRule.answer c.args.network.now c.args.self.now.ranked.items c.deref.result.now c.deref.ensures.value (spot_leg c.args.spot)
    None c.in-None.ensures (reached w.ranked.items w.stage) (c.pass.ensures c.args.network.now.table.buses c.requires)
