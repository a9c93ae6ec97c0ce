use Rattle.std.proofs.Common.{◌≡◌, sym, ◌∙◌, subst}
use Rattle.search.specs.Deadlines.{delays}
use Rattle.boards.specs.Boards.{Keeps}
use Rattle.boards.specs.Nets.{leg_at}
use Rattle.boards.proofs.BoardLaws.{keeps-each}
use Rattle.planner.specs.Checks.{orders_in}
use Rattle.planner.specs.Networks.{board_on, net_on}
use Rattle.planner.specs.Spots.{AtMost}
use Rattle.planner.proofs.NamedDelays.{unnamed_delay, named-delay}
use Rattle.planner.proofs.OwnDelays.{delay_small}
use Rattle.planner.proofs.orders.Orders.delay_in.Given as given
use Rattle.planner.proofs.orders.Orders.delay_in.Goals as goal

pub returns-in_err-above-clause-delay : goal.returns-in_err-above-clause-delay
returns-in_err-above-clause-delay g c =
    let net = c.args.self.now.network.now in
    c.from_residual.ensures
    ∙ sym (unnamed_delay (board_on g.R.BusRule.answer net) c.args.self.now.rows.now c.args.bus c.args.number net.table.buses c.in_err-above.ensures)

keeps : (g : given.Over) (s : g.row.R.Denot) → Keeps (g.R.BusRule.answer s)
keeps g s = record { bounded = g.met.R.BusRule.bounded s; absent = g.met.R.BusRule.absent s; shorter = g.met.R.BusRule.shorter s }

pub returns : goal.returns
returns g c =
    let net = c.args.self.now.network.now in
    let f = g.R.BusRule.answer in
    let b = board_on f net in
    let rows = c.args.self.now.rows.now in
    let above = c.in_ok-above in
    let delay : c.delay_on.result ≡ delays (net_on f net) (orders_in net.table.buses rows) (leg_at c.args.bus c.args.number) =
    c.delay_on.ensures ∙ named-delay b rows c.args.bus c.args.number net.table.buses above.above.bits c.args.self.now.named above.ensures.0 above.ensures.1
    in
    record {
      delay = delay;
      bound = subst (AtMost 10000000000) (sym delay) (delay_small b (keeps-each f (keeps g) net.rules.now) net.table.rises (orders_in net.table.buses rows) c.args.bus c.args.number);
    }
