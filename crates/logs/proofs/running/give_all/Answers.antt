use Rattle.std.proofs.Common.{◌≡◌, ℕ, ◌<◌, List, length, get_or, vec_items, sym, ap, subst, arith}
use Rattle.planner.specs.Views.{standing}
use Rattle.logs.specs.Lines.{log_of, Leads}
use Rattle.logs.specs.declared.answer.Answer.{Answer}
use Rattle.logs.proofs.Turns.{Leads-none, Leads-turn}
use Rattle.logs.proofs.running.give_all.Goals as goal

pub loop-call-init : goal.loop-call-init
loop-call-init g c = (
  Leads-none (standing g.R.BusRule.answer c.args.board.now) c.args.calls.now _ c.requires.empty,
  omega (arith, ap length c.requires.empty, c.args.answers.now.ok.0),
  c.requires.room,
)

pub loop-call-preserved : goal.loop-call-preserved
loop-call-preserved g c =
    let f = g.R.BusRule.answer in
    let s = standing f c.args.board.now in
    let t = standing f c.loop-call.board in
    let u = standing f c.give.new.board in
    let calls = c.args.calls.now in
    let before = vec_items c.loop-call.answers in
    let call = c.call-item.result in
    let answer = c.in_ok-answer.answer in
    let at : c.loop-call.call-index ≡ length before = omega (arith, c.loop-call.invariant.1, c.loop-call.answers.ok.0) in
    let within : length before < length calls = omega (arith, at, c.loop-call-test.true) in
    let here : call ≡ get_or calls (length before) call = subst (λ (k : ℕ). call ≡ get_or calls k call) at c.call-item.is in (
      subst (λ (xs : List Answer). Leads s (log_of calls xs) u) (sym c.push_reserved.ensures.items)
          (Leads-turn s t u calls before call answer within here c.loop-call.invariant.0 c.in_ok-answer.ensures.answer),
      omega (arith, c.push_reserved.ensures.len, c.loop-call.invariant.1),
      omega (arith, c.push_reserved.ensures.capacity, c.loop-call.invariant.2),
    )
