use Rattle.std.proofs.Common.{List, IfOk, vec_items, sym, subst}
use Rattle.planner.specs.Logs.{Gives, enter, check}
use Rattle.planner.specs.Views.{standing}
use Rattle.planner.specs.declared.rows.Spot.{Spot}
use Rattle.logs.specs.Lines.{call_of, answer_of}
use Rattle.logs.proofs.giving.give.Goals as goal

pub returns-in-Enter-clause-answer : goal.returns-in-Enter-clause-answer
returns-in-Enter-clause-answer g c =
    let s = standing g.R.BusRule.answer c.args.board.now in
    let t = standing g.R.BusRule.answer c.enter.new.self in
    subst (λ x. Gives s (call_of x) (answer_of c.into.result) t) (sym c.in-Enter.is)
    (subst (λ a. Gives s (enter c.in-Enter.entry) a t) (sym c.into.ensures) c.enter.ensures.answer)

pub returns-in-Check-clause-answer : goal.returns-in-Check-clause-answer
returns-in-Check-clause-answer g c =
    let s = standing g.R.BusRule.answer c.args.board.now in
    let gave : IfOk c.give_check.result (λ a. Gives s (check (vec_items c.in-Check.orders) c.in-Check.lent) (answer_of a) s) =
    subst (λ (rows : List Spot). IfOk c.give_check.result (λ a. Gives s (check rows c.in-Check.lent) (answer_of a) s)) c.deref.ensures.value
    c.give_check.ensures
    in subst (λ x. IfOk c.give_check.result (λ a. Gives s (call_of x) (answer_of a) s)) (sym c.in-Check.is) gave
