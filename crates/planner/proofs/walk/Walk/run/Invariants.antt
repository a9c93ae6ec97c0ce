use Rattle.planner.proofs.TryRuns.{Ran}
use Rattle.planner.proofs.walk.Walk.run.Given as goal

abbrev pub invariant-loop-made : goal.invariant-loop-made
invariant-loop-made g l = Ran g.R.BusRule.answer l.network l.tries l.fn.self l.made l.self
