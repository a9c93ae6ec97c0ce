use Rattle.std.proofs.Common.{arith}
use Rattle.planner.proofs.Same.{touches-pair_to}
use Rattle.planner.proofs.ranks.is_partnered.Goals as goal

pub returns-then-bus-destination : goal.returns-then-bus-destination
returns-then-bus-destination c = grind (arith, touches-pair_to)

pub returns-then-is_known : goal.returns-then-is_known
returns-then-is_known c = grind (arith, touches-pair_to)

pub returns-else-is_known : goal.returns-else-is_known
returns-else-is_known c = grind (arith, touches-pair_to)
