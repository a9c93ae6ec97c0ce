use Rattle.boards.specs.Nets.{net_of}
use Rattle.planner.specs.Networks.{board_on}
use Rattle.planner.specs.Stages.{stage_of}
use Rattle.planner.proofs.Attempts.{Gives-attempt}
use Rattle.planner.proofs.BoardFacts.{Sound-board_in}
use Rattle.planner.proofs.board.Board.attempt.Goals as goal

pub returns-clause-answer : goal.returns-clause-answer
returns-clause-answer g c =
    let w = c.args.self.now.walk in
    let v = c.run-made.new.self in
    let b = board_on g.R.BusRule.answer c.args.self.now.network in
    let sound =
    Sound-board_in c.args.self.now g.R.BusRule.answer
    (λ s. record { bounded = g.met.R.BusRule.bounded s; absent = g.met.R.BusRule.absent s; shorter = g.met.R.BusRule.shorter s }) in
    Gives-attempt b sound c.args.count c.in_ok-count.count c.in_ok-count.ensures.1 c.in_ok-count.ensures.0
    (stage_of (net_of b) w.ranked.items w.stage) v.ranked.items v.stage c.run-made.result c.progress.result c.run-made.ensures.stage
    c.run-made.ensures.made c.progress.ensures
