use Rattle.std.proofs.Common.{arith}
use Rattle.planner.proofs.Same.{same-bus}
use Rattle.planner.proofs.ranks.is_known.Goals as goal

pub returns-then-bus-other : goal.returns-then-bus-other
returns-then-bus-other c = grind (arith, same-bus)

pub returns-else-bus-other : goal.returns-else-bus-other
returns-else-bus-other c = grind (arith, same-bus)
