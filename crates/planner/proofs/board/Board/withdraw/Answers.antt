use Rattle.std.proofs.Common.{rules, map, ap, ◌∙◌}
use Rattle.boards.specs.Boards.{board_of}
use Rattle.planner.specs.Messages.{withdrawn}
use Rattle.planner.specs.Views.{board_in, standing}
use Rattle.planner.proofs.FreshBoards.{stands-start, fresh-start, Gives-withdraw}
use Rattle.planner.proofs.board.Board.withdraw.Goals as goal

pub invariant_of-self : goal.invariant_of-self
invariant_of-self g c = record { walks = search (rules, stands-start) }

pub returns-clause-answer : goal.returns-clause-answer
returns-clause-answer g c =
    let f = g.R.BusRule.answer in
    let board = c.args.self.now in
    let network = board.network in
    let ms = c.take.new.self.messages.items in
    let walk = c.reset.new.self in
    Gives-withdraw (board_in f board) (standing f board).left ms _
    (fresh-start walk.ranked.items walk.stage c.reset.ensures (board_of (map f network.rules.now) network.gateway ms)) c.args.number
    c.in_ok-number.ensures.0 (c.take.ensures.items ∙ ap (λ k. withdrawn k network.table.messages.items) c.in_ok-number.ensures.1)
