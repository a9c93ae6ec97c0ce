use Rattle.std.proofs.Common.{arith}
use Rattle.std.proofs.lemmas.Grind.{common_steps}
use Rattle.planner.proofs.table.Table.admitted.Goals as goal

pub returns-in_err-message : goal.returns-in_err-message
returns-in_err-message c = grind (arith, common_steps)
