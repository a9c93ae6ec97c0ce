use Rattle.std.proofs.Common.{◌≡◌, ◌≤◌, List, length, Err, rules, sym, subst, arith}
use Rattle.bus.specs.declared.refusal.Refusal.TheVariants.{WrongRows}
use Rattle.planner.specs.Checks.{orders_in, all_met, margin_rows}
use Rattle.planner.specs.Logs.{margin_count, check, Gives}
use Rattle.planner.specs.Networks.{board_on, net_on}
use Rattle.planner.specs.Spots.{Written}
use Rattle.planner.specs.Views.{board_in, standing, checks}
use Rattle.planner.specs.declared.network.Network.{Network}
use Rattle.planner.specs.declared.rows.Spot.{Spot}
use Rattle.planner.proofs.BusRules.{length-rules_of}
use Rattle.planner.proofs.Checkings.{Gives-check_few, Gives-check_wrong, Gives-check}
use Rattle.planner.proofs.board.Board.check.Goals as goal

pub returns-then-margins-margin_count-clause-answer : goal.returns-then-margins-margin_count-clause-answer
returns-then-margins-margin_count-clause-answer g c =
    let board = c.args.self.now in
    let b = board_in g.R.BusRule.answer board in
    Gives-check_few b (standing g.R.BusRule.answer board).left c.args.orders.now (length c.args.margins.now) board.network.table.buses (length-rules_of g.R.BusRule.answer board.network) (sym c.if-is_empty.ensures)
    (omega (arith, c.margin_count.ensures b.rules b.gateway))

pub returns-in_err-orders-clause-answer : goal.returns-in_err-orders-clause-answer
returns-in_err-orders-clause-answer g c =
    let board = c.args.self.now in
    let b = board_in g.R.BusRule.answer board in
    let at = standing g.R.BusRule.answer board in
    let e : c.from_residual.result ≡ Err WrongRows = search rules in
    subst (λ r. Gives at (check c.args.orders.now (length c.args.margins.now)) (checks c.args.margins.now r) at) (sym e)
    (Gives-check_wrong b at.left c.args.orders.now (length c.args.margins.now) board.network.table.buses (length-rules_of g.R.BusRule.answer board.network) (sym c.if-is_empty.ensures)
    (omega (arith, c.margin_count.ensures b.rules b.gateway)) c.in_err-orders.ensures.0)

pub write_margins-requires : goal.write_margins-requires
write_margins-requires g c =
    let b = board_in g.R.BusRule.answer c.args.self.now in
    subst (λ n. margin_count (board_on g.R.BusRule.answer n) ≤ length c.args.margins.now) (sym c.in_ok-orders.ensures.1) (omega (arith, c.margin_count.ensures b.rules b.gateway))

pub returns-clause-answer : goal.returns-clause-answer
returns-clause-answer g c =
    let f = g.R.BusRule.answer in
    let board = c.args.self.now in
    let b = board_in f board in
    let r = c.write_margins.result in
    -- what is told of the orders, told of the network and the rows that they were read from
    let Told = λ (n : Network g.row.R.Denot) (rows : List Spot).
    (r.0 ≡ all_met (net_on f n) (orders_in n.table.buses rows)) × Written (margin_rows (board_on f n) (orders_in n.table.buses rows)) c.args.margins.now c.write_margins.new.margins r.1
    in
    let told : Told board.network c.args.orders.now =
    subst (λ n. Told n c.args.orders.now) c.in_ok-orders.ensures.1
    (subst (Told c.in_ok-orders.orders.network.now) c.in_ok-orders.ensures.2 (c.write_margins.ensures.met, c.write_margins.ensures.rows))
    in
    Gives-check b (standing f board).left c.args.orders.now (length c.args.margins.now) board.network.table.buses (length-rules_of g.R.BusRule.answer board.network) (sym c.if-is_empty.ensures)
    (omega (arith, c.margin_count.ensures b.rules b.gateway)) c.in_ok-orders.ensures.0 r.0 r.1 c.args.margins.now c.write_margins.new.margins told.0 told.1
