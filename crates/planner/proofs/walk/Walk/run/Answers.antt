use Rattle.std.proofs.Common.{sym, ap}
use Rattle.search.specs.Stored as walk
use Rattle.planner.proofs.TryRuns.{Ran-none, Ran-more, Ran-over}
use Rattle.planner.proofs.walk.Walk.run.Goals as goal

pub loop-made-init : goal.loop-made-init
loop-made-init g c = Ran-none g.R.BusRule.answer c.args.network.now c.args.tries c.args.self.now c.begin.new.self c.requires c.begin.ensures

pub loop-made-preserved : goal.loop-made-preserved
loop-made-preserved g c =
    Ran-more g.R.BusRule.answer c.args.network.now c.args.tries c.args.self.now c.loop-made.made c.loop-made.self c.step.new.self c.in-Testing.spot
    c.in-Testing.is c.loop-made-test.true c.loop-made.invariant c.step.ensures

-- the walk has ended
pub returns-in_default : goal.returns-in_default
returns-in_default g c =
    let ran =
    Ran-over g.R.BusRule.answer c.args.network.now c.args.tries c.args.self.now c.loop-made.made c.loop-made.self c.in_default.not-Testing
    c.loop-made.invariant in
    record {
      made = sym (ap (λ (v : walk.Tried). v.made) ran);
      stage = sym (ap (λ (v : walk.Tried). v.stage) ran);
      stands = c.loop-made.invariant.stands;
    }
