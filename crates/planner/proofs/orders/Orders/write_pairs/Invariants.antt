-- The rows of the destinations so far are written, and those of the others are to come.
use Rattle.planner.specs.Checks.{orders_in}
use Rattle.planner.specs.Networks.{net_on}
use Rattle.planner.specs.Spots.{pair_row}
use Rattle.planner.proofs.PairWrites.{Pairs}
use Rattle.planner.proofs.orders.Orders.write_pairs.Given as goal

abbrev pub invariant-loop-destination : goal.invariant-loop-destination
invariant-loop-destination g l =
    Pairs (pair_row (net_on g.R.BusRule.answer l.self.network.now) (orders_in l.self.network.now.table.buses l.self.rows.now) l.message)
    l.message l.initial.margins l.margins l.destination l.count
