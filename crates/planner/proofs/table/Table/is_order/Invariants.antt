-- The rows that are left order the legs that are not yet seen.
use Rattle.std.proofs.Common.{vec_items, ◌≡◌, drop}
use Rattle.boards.specs.Nets.{net_legs}
use Rattle.planner.specs.Checks.{is_order, order_in}
use Rattle.planner.specs.Spots.{down_in}
use Rattle.planner.proofs.Seen.{unseen}
use Rattle.planner.proofs.table.Table.is_order.Given as goal

abbrev pub invariant-loop-row : goal.invariant-loop-row
invariant-loop-row l =
    is_order (down_in (drop l.row-index l.rows) l.bus) (unseen l.seen.bits (net_legs (vec_items l.self.messages) l.bus))
    ≡ is_order (order_in l.rows l.bus) (net_legs (vec_items l.self.messages) l.bus)
