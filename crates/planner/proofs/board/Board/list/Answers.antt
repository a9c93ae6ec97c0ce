use Rattle.std.proofs.Common.{rules, ◌≡◌, ◌++◌, length, drop, Err, vec_items, sym, ap, ◌∙◌, subst, arith}
use Rattle.bus.specs.declared.refusal.Refusal.TheVariants.{NotFound}
use Rattle.search.specs.Stored as walk
use Rattle.boards.specs.Boards.{Keeps}
use Rattle.boards.specs.Nets.{net_of}
use Rattle.planner.specs.Calls.{rows_of}
use Rattle.planner.specs.Logs.{Gives, list as listing}
use Rattle.planner.specs.Networks.{net_on}
use Rattle.planner.specs.Storage.{ranked_of}
use Rattle.planner.specs.Views.{board_in, standing, lists}
use Rattle.planner.proofs.BoardFacts.{Sound-board_in, found_of, count_of}
use Rattle.planner.proofs.Listings.{Gives-list_not_found, Gives-list_few, Gives-list}
use Rattle.planner.proofs.board.Board.list.Given.{Over}
use Rattle.planner.proofs.board.Board.list.Goals as goal

keeps : (g : Over) (s : g.row.R.Denot) → Keeps (g.R.BusRule.answer s)
keeps g s = record { bounded = g.met.R.BusRule.bounded s; absent = g.met.R.BusRule.absent s; shorter = g.met.R.BusRule.shorter s }

pub returns-in_err-found-clause-answer : goal.returns-in_err-found-clause-answer
returns-in_err-found-clause-answer g c =
    let board = c.args.self.now in
    let f = g.R.BusRule.answer in
    let told : c.from_residual.result ≡ Err NotFound = search rules in
    subst (λ r. Gives (standing f board) (listing (length c.args.rows.now)) (lists c.args.rows.now r) (standing f board)) (sym told)
    (Gives-list_not_found (board_in f board) (Sound-board_in board f (keeps g)) (vec_items board.walk.ranked) board.walk.stage (length c.args.rows.now) c.in_err-found.ensures.0)

pub returns-then-rows-found-clause-answer : goal.returns-then-rows-found-clause-answer
returns-then-rows-found-clause-answer g c =
    let board = c.args.self.now in
    let f = g.R.BusRule.answer in
    let yes = c.in_ok-found.ensures.0 in
    Gives-list_few (board_in f board) (Sound-board_in board f (keeps g)) (vec_items board.walk.ranked) board.walk.stage
    (walk.orders_of (net_of (board_in f board)) (ranked_of (vec_items board.walk.ranked))) (found_of board f (keeps g) yes) (length c.args.rows.now)
    (omega (arith, ap length c.in_ok-found.ensures.2, count_of board f yes))

pub returns-clause-answer : goal.returns-clause-answer
returns-clause-answer g c =
    let board = c.args.self.now in
    let f = g.R.BusRule.answer in
    let yes = c.in_ok-found.ensures.0 in
    let network = c.in_ok-found.ensures.1 in
    let stored = c.in_ok-found.ensures.2 in
    let net = net_of (board_in f board) in
    let os = walk.orders_of net (ranked_of (vec_items board.walk.ranked)) in
    let same : rows_of (net_on f c.in_ok-found.found.network.now) (walk.orders_of (net_on f c.in_ok-found.found.network.now) (ranked_of c.in_ok-found.found.ranked.now)) ≡ rows_of net os =
    λ i. rows_of (net_on f (network i)) (walk.orders_of (net_on f (network i)) (ranked_of (stored i)))
    in
    Gives-list (board_in f board) (Sound-board_in board f (keeps g)) (vec_items board.walk.ranked) board.walk.stage os (found_of board f (keeps g) yes) (length c.args.rows.now)
    c.write_rows.result c.args.rows.now c.write_rows.new.rows
    (omega (arith, ap length stored, count_of board f yes))
    (c.write_rows.ensures.count ∙ ap length same) (c.write_rows.ensures.rows ∙ ap (λ l. l ++ drop c.write_rows.result c.args.rows.now) same)
