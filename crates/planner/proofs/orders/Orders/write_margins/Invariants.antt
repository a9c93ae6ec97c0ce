-- The rows of the messages so far are written, and those of the others are to come.
use Rattle.planner.specs.Checks.{orders_in}
use Rattle.planner.specs.Networks.{board_on}
use Rattle.planner.proofs.MessageWrites.{Rows}
use Rattle.planner.proofs.orders.Orders.write_margins.Given as goal

abbrev pub invariant-loop-message : goal.invariant-loop-message
invariant-loop-message g l =
    Rows (board_on g.R.BusRule.answer l.self.network.now) (orders_in l.self.network.now.table.buses l.self.rows.now) l.initial.margins l.margins
    l.message-index l.count
