use Rattle.std.proofs.Common.{rules, ◌≡◌, true, is_some, Err, vec_items, sym, ap, ◌∙◌, subst}
use Rattle.bus.specs.declared.refusal.Refusal.TheVariants.{NotFound}
use Rattle.search.specs.Stored as walk
use Rattle.boards.specs.Boards.{Keeps}
use Rattle.boards.specs.Nets.{leg_at, net_of}
use Rattle.planner.specs.Calls.{rows_of, row_at}
use Rattle.planner.specs.Logs.{Gives, look as looking}
use Rattle.planner.specs.Networks.{net_on}
use Rattle.planner.specs.Refusing.{look_fault}
use Rattle.planner.specs.Storage.{ranked_of}
use Rattle.planner.specs.Views.{board_in, standing, looks}
use Rattle.planner.proofs.BusRules.{length-rules_of}
use Rattle.planner.proofs.BoardFacts.{Sound-board_in, found_of, ranked-of}
use Rattle.planner.proofs.Listings.{look_fault-tests, Gives-look, Gives-look_not_found}
use Rattle.planner.proofs.board.Board.look.Given.{Over}
use Rattle.planner.proofs.board.Board.look.Goals as goal

keeps : (g : Over) (s : g.row.R.Denot) → Keeps (g.R.BusRule.answer s)
keeps g s = record { bounded = g.met.R.BusRule.bounded s; absent = g.met.R.BusRule.absent s; shorter = g.met.R.BusRule.shorter s }

pub returns-in_err-found : goal.returns-in_err-found
returns-in_err-found g c =
    let board = c.args.self.now in
    let f = g.R.BusRule.answer in
    let told : c.from_residual-in_err-found.result ≡ Err NotFound = search rules in
    subst (λ r. Gives (standing f board) (looking c.args.bus c.args.message) (looks r) (standing f board)) (sym told)
    (Gives-look_not_found (board_in f board) (Sound-board_in board f (keeps g)) (vec_items board.walk.ranked) board.walk.stage c.args.bus c.args.message c.in_err-found.ensures.0
    (ap (λ n. look_fault n (vec_items board.network.table.messages) true c.args.bus c.args.message) (length-rules_of f board.network) ∙ c.in_ok-spot.ensures.0))

pub row_of-row-requires-clause-ranked : goal.row_of-row-requires-clause-ranked
row_of-row-requires-clause-ranked g c =
    let board = c.args.self.now in
    let tests = look_fault-tests board.network.table.buses (vec_items board.network.table.messages) c.args.bus c.args.message c.in_ok-spot.ensures.0 in
    let is = ranked-of board c.in_ok-found.ensures.0 c.args.bus c.args.message tests.low tests.high tests.leg in
    let bus = c.in_ok-spot.ensures.1 in
    let number = c.in_ok-spot.ensures.2 in
    let stored = c.in_ok-found.ensures.2 in
    let same : is_some (walk.stored (ranked_of c.in_ok-found.field-0.ranked.now) (leg_at c.in_ok-spot.spot.bus c.in_ok-spot.spot.message))
    ≡ is_some (walk.stored (ranked_of (vec_items board.walk.ranked)) (leg_at c.args.bus c.args.message)) =
    λ i. is_some (walk.stored (ranked_of (stored i)) (leg_at (bus i) (number i)))
    in same ∙ is

pub returns : goal.returns
returns g c =
    let board = c.args.self.now in
    let f = g.R.BusRule.answer in
    let net = net_of (board_in f board) in
    let os = walk.orders_of net (ranked_of (vec_items board.walk.ranked)) in
    let bus = c.in_ok-spot.ensures.1 in
    let number = c.in_ok-spot.ensures.2 in
    let network = c.in_ok-found.ensures.1 in
    let stored = c.in_ok-found.ensures.2 in
    let same : row_at c.in_ok-spot.spot.bus c.in_ok-spot.spot.message (rows_of (net_on f c.in_ok-found.field-0.network.now) (walk.orders_of (net_on f c.in_ok-found.field-0.network.now) (ranked_of c.in_ok-found.field-0.ranked.now)))
    ≡ row_at c.args.bus c.args.message (rows_of net os) =
    λ i. row_at (bus i) (number i) (rows_of (net_on f (network i)) (walk.orders_of (net_on f (network i)) (ranked_of (stored i))))
    in
    Gives-look (board_in f board) (Sound-board_in board f (keeps g)) (vec_items board.walk.ranked) board.walk.stage os (found_of board f (keeps g) c.in_ok-found.ensures.0) c.args.bus
    c.args.message c.row_of-row.result
    (ap (λ n. look_fault n (vec_items board.network.table.messages) true c.args.bus c.args.message) (length-rules_of f board.network) ∙ c.in_ok-spot.ensures.0)
    (sym same ∙ c.row_of-row.ensures)
