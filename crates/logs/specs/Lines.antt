-- The calls that were given and the answers, as a log; and where the calls of a log lead.
use Rattle.std.specs.Prelude.{◌≡◌, List, [], ◌∷◌, vec_items}
use Rattle.planner.specs.Logs as logs
use Rattle.planner.specs.Logs.{Gives}
use Rattle.planner.specs.Standing.{Standing}
use Rattle.logs.specs.declared.answer.Answer.{Answer}
use Rattle.logs.specs.declared.answer.Answer.TheVariants.{Done, Refused, Tried, Looked, Listed, Checked}
use Rattle.logs.specs.declared.call.Call.{Call}
use Rattle.logs.specs.declared.call.Call.TheVariants.{Enter, Withdraw, Attempt, Look, List as ListRows, Check}

abbrev pub call_of : Call → logs.Call
call_of (Enter e) = logs.enter e
call_of (Withdraw n) = logs.withdraw n
call_of (Attempt n) = logs.attempt n
call_of (Look bus n) = logs.look bus n
call_of (ListRows lent) = logs.list lent
call_of (Check rows lent) = logs.check (vec_items rows) lent

abbrev pub answer_of : Answer → logs.Answer
answer_of Done = logs.done
answer_of (Refused f) = logs.refused f
answer_of (Tried t) = logs.tried t.progress t.made
answer_of (Looked rank delay) = logs.looked rank delay
answer_of (Listed rows) = logs.listed (vec_items rows)
answer_of (Checked meets margins) = logs.checked meets (vec_items margins)

-- a line of a log: a call with its answer
pub record Line : Type 0 where
  pub call : logs.Call
  pub answer : logs.Answer

abbrev pub line_of : Call → Answer → Line
line_of c a = record { call = call_of c; answer = answer_of a }

-- the calls that were answered, each with its answer
abbrev pub log_of : List Call → List Answer → List Line
log_of [] answers = []
log_of (c ∷ calls) [] = []
log_of (c ∷ calls) (a ∷ answers) = line_of c a ∷ log_of calls answers

-- the calls of a log, made on a board that stands at s, give its answers and leave the board at t
abbrev pub Leads : Standing → List Line → Standing → Type 0
Leads s [] t = t ≡ s
Leads s (l ∷ ls) t = (u : Standing) × Gives s l.call l.answer u × Leads u ls t
