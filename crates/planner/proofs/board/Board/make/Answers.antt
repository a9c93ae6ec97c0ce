use Rattle.std.proofs.Common.{rules, ◌≡◌, ℕ, ◌≤◌, [], map, length, None, refl, ap, ◌∙◌, subst, arith}
use Rattle.std.proofs.lemmas.Bool.Decides.{nat_tests}
use Rattle.boards.specs.Boards.{board_of, Sound}
use Rattle.planner.specs.Logs.{Happened}
use Rattle.planner.specs.Networks.{board_on}
use Rattle.planner.specs.Refusing.{make_fault}
use Rattle.planner.specs.Standing.{fresh}
use Rattle.planner.proofs.FreshBoards.{stands-start, fresh-start, Sound-board_of}
use Rattle.planner.proofs.LogLaw.{every_log_keeps_the_law}
use Rattle.planner.proofs.board.Board.make.Goals as goal

make_accepted : (n gateway : ℕ) → 1 ≤ n → n ≤ 8 → gateway ≤ 1000000000 → make_fault n gateway ≡ None
make_accepted n gateway g h k = grind (arith, nat_tests)

pub invariant_of-self : goal.invariant_of-self
invariant_of-self g c = record { walks = search (rules, stands-start) }

pub returns : goal.returns
returns g c =
    let lent = c.args.rules.now in
    let gateway = c.args.gateway in
    let f = g.R.BusRule.answer in
    let walk = c.reset.new.self in
    let few : length lent ≤ 8 = search rules in
    let fault : make_fault (length lent) gateway ≡ None = make_accepted (length lent) gateway (search rules) few (omega arith) in
    let stands = fresh-start walk.ranked.items walk.stage c.reset.ensures (board_on f c.renew.new.self) ∙ ap fresh c.renew.ensures in
    let sound : Sound (board_of (map f lent) gateway []) =
    Sound-board_of f (λ s. record { bounded = g.met.R.BusRule.bounded s; absent = g.met.R.BusRule.absent s; shorter = g.met.R.BusRule.shorter s }) lent gateway [] few
    refl refl
    in
    record {
      answer = (fault, stands);
      law = λ log h. every_log_keeps_the_law (board_of (map f lent) gateway []) sound log (subst (λ s. Happened s log) stands h);
    }
