use Rattle.std.proofs.Common.{vec_items, arith}
use Rattle.planner.proofs.MessageLegs.{has-leg_from}
use Rattle.planner.proofs.table.Table.is_new.Goals as goal

pub returns-then-not-contains : goal.returns-then-not-contains
returns-then-not-contains c = grind (arith, has-leg_from (vec_items c.args.self.now.messages) c.args.bus c.args.number c.args.self.now.rises)
