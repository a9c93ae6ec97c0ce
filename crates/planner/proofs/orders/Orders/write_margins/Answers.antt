use Rattle.std.proofs.Common.{not, ap, ◌∙◌}
use Rattle.std.specs.List.{list_all}
use Rattle.boards.specs.Boards.{Keeps}
use Rattle.boards.proofs.BoardLaws.{keeps-each}
use Rattle.planner.specs.Checks.{orders_in, below_zero}
use Rattle.planner.specs.Networks.{board_on}
use Rattle.planner.specs.declared.rows.Margin.{Margin}
use Rattle.planner.proofs.MarginsTell.{met-where_none_below}
use Rattle.planner.proofs.MessageWrites.{Rows-room, Rows-written, Rows-front}
use Rattle.planner.proofs.orders.Orders.write_margins.Given as given
use Rattle.planner.proofs.orders.Orders.write_margins.Goals as goal

pub write_message-count-requires : goal.write_message-count-requires
write_message-count-requires g c =
    Rows-room c.loop-message.invariant _ c.deref-message-items.ensures.value c.message-item.result c.loop-message-test.true c.message-item.is c.loop-message.auto.margins c.requires

pub loop-message-preserved : goal.loop-message-preserved
loop-message-preserved g c =
    Rows-written c.loop-message.invariant _ c.deref-message-items.ensures.value c.message-item.result c.loop-message-test.true c.message-item.is
    c.write_message-count.new.margins c.write_message-count.result c.write_message-count.ensures

keeps : (g : given.Over) (s : g.row.R.Denot) → Keeps (g.R.BusRule.answer s)
keeps g s = record { bounded = g.met.R.BusRule.bounded s; absent = g.met.R.BusRule.absent s; shorter = g.met.R.BusRule.shorter s }

pub returns-clause-met : goal.returns-clause-met
returns-clause-met g c =
    let net = c.args.self.now.network.now in
    c.none_below.ensures
    ∙ ap (list_all (λ (r : Margin). not (below_zero r))) (Rows-front c.loop-message.invariant _ c.deref-message-items.ensures.value c.loop-message-test.false)
    ∙ met-where_none_below (board_on g.R.BusRule.answer net) (keeps-each g.R.BusRule.answer (keeps g) net.rules.now) net.table.rises (orders_in net.table.buses c.args.self.now.rows.now)
