use Rattle.planner.proofs.MarginCounts.{margins_as_many}
use Rattle.planner.proofs.MarginsTell.{margins_tell, met-where_none_is_below}
use Rattle.planner.proofs.NamedOrders.{met-where_orders_meet}
use Rattle.planner.proofs.laws.margins_law.Goals as goal

pub returns : goal.returns
returns c = record { count = margins_as_many; tell = margins_tell; below = met-where_none_is_below; orders = met-where_orders_meet }
