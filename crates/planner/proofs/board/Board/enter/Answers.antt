use Rattle.std.proofs.Common.{rules, map, ap, ◌∙◌}
use Rattle.boards.specs.Boards.{board_of}
use Rattle.planner.specs.Refusing.{enter_fault}
use Rattle.planner.specs.Views.{board_in, standing}
use Rattle.planner.proofs.BusRules.{length-rules_of}
use Rattle.planner.proofs.FreshBoards.{stands-start, fresh-start, Gives-enter}
use Rattle.planner.proofs.board.Board.enter.Goals as goal

pub invariant_of-self : goal.invariant_of-self
invariant_of-self g c = record { walks = search (rules, stands-start) }

pub returns-clause-answer : goal.returns-clause-answer
returns-clause-answer g c =
    let f = g.R.BusRule.answer in
    let board = c.args.self.now in
    let network = board.network in
    let ms = c.put.new.self.messages.items in
    let walk = c.reset.new.self in
    Gives-enter (board_in f board) (standing f board).left ms _
    (fresh-start walk.ranked.items walk.stage c.reset.ensures (board_of (map f network.rules.now) network.gateway ms)) c.args.given c.in_ok-message.message
    (ap (λ n. enter_fault n network.table.messages.items c.args.given) (length-rules_of f network) ∙ c.in_ok-message.ensures.0) c.in_ok-message.ensures.1 c.put.ensures.items
