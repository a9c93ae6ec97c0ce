-- One turn of a run: one more line at the end of a log.
use Rattle.std.proofs.Common.{◌≡◌, ◌<◌, List, [], ◌∷◌, ◌++◌, length, get_or, sym, refl, ap, ◌∙◌, subst, arith}
use Rattle.planner.specs.Logs.{Gives}
use Rattle.planner.specs.Standing.{Standing}
use Rattle.logs.specs.Lines.{Line, line_of, log_of, Leads}
use Rattle.logs.specs.declared.answer.Answer.{Answer}
use Rattle.logs.specs.declared.call.Call.{Call}

log_of-none : (calls : List Call) → log_of calls [] ≡ []
log_of-none [] = refl
log_of-none (c ∷ calls) = refl

-- the call at the place of the next answer makes the next line
log_of-more : (calls : List Call) (answers : List Answer) (c : Call) (a : Answer) → length answers < length calls → c ≡ get_or calls (length answers) c →
    log_of calls (answers ++ a ∷ []) ≡ log_of calls answers ++ line_of c a ∷ []
log_of-more [] answers c a h e = absurd (omega arith)
log_of-more (x ∷ calls) [] c a h e =
    ap (λ (ls : List Line). line_of x a ∷ ls) (log_of-none calls) ∙ ap (λ (y : Call). line_of y a ∷ []) (sym e)
log_of-more (x ∷ calls) (b ∷ answers) c a h e = ap (λ (ls : List Line). line_of x b ∷ ls) (log_of-more calls answers c a (omega arith) e)

-- no call was made
pub Leads-none : (s : Standing) (calls : List Call) (answers : List Answer) → answers ≡ [] → Leads s (log_of calls answers) s
Leads-none s calls answers none = subst (λ (log : List Line). Leads s log s) (sym (ap (log_of calls) none ∙ log_of-none calls)) refl

Leads-more : (s : Standing) (log : List Line) (l : Line) (t u : Standing) → Leads s log t → Gives t l.call l.answer u → Leads s (log ++ l ∷ []) u
Leads-more s [] l t u e g = (u, subst (λ x. Gives x l.call l.answer u) e g, refl)
Leads-more s (k ∷ log) l t u (v, gives, h) g = (v, gives, Leads-more v log l t u h g)

-- one call more was made, and answered
pub Leads-turn : (s t u : Standing) (calls : List Call) (answers : List Answer) (c : Call) (a : Answer) → length answers < length calls → c ≡ get_or calls (length answers) c →
    Leads s (log_of calls answers) t → Gives t (line_of c a).call (line_of c a).answer u → Leads s (log_of calls (answers ++ a ∷ [])) u
Leads-turn s t u calls answers c a h e leads g =
    subst (λ (log : List Line). Leads s log u) (sym (log_of-more calls answers c a h e)) (Leads-more s (log_of calls answers) (line_of c a) t u leads g)
