use Rattle.std.proofs.Common.{arith}
use Rattle.planner.proofs.Same.{same-bus, touches-pair_to}
use Rattle.planner.proofs.network.Network.pair_passes.Goals as goal

pub returns-then-not-is_end : goal.returns-then-not-is_end
returns-then-not-is_end g c = grind (arith, touches-pair_to)

pub returns-in_default : goal.returns-in_default
returns-in_default g c = grind (arith, touches-pair_to, same-bus, c.args.message.elsewhere)

pub returns : goal.returns
returns g c = grind (arith, touches-pair_to, same-bus, c.args.message.elsewhere)
