-- A log whose calls were made on a board that keeps the law over every log keeps the law in the words of the board.
use Rattle.std.proofs.Common.{◌≡◌, ℕ, Bool, false, List, [], ◌∷◌, refl, subst}
use Rattle.bus.specs.Rules.{Meaning}
use Rattle.boards.specs.Boards.{board_of}
use Rattle.planner.specs.Logs as logs
use Rattle.planner.specs.Logs.{spent_after, found_after, Happened, LogLaw}
use Rattle.planner.specs.Standing.{Standing, fresh}
use Rattle.logs.specs.Law.{LogKept}
use Rattle.logs.specs.Lines.{Line, Leads}
use Rattle.logs.proofs.Moves.{moves}

-- the log with the board as it was before each call
abbrev lines : (s : Standing) (log : List Line) (t : Standing) → Leads s log t → List logs.Line
lines s [] t h = []
lines s (l ∷ ls) t (u, gives, h) = record { before = s.board; call = l.call; answer = l.answer } ∷ lines u ls t h

happened : (s : Standing) (log : List Line) (t : Standing) (h : Leads s log t) → Happened s (lines s log t h)
happened s [] t h = tt
happened s (l ∷ ls) t (u, gives, h) = (u, refl, gives, happened u ls t h)

kept : (s : Standing) (log : List Line) (t : Standing) (h : Leads s log t) (spent : ℕ) (found : Bool) → LogLaw spent found (lines s log t h) →
    LogKept s.board.rules s.board.gateway s.board.messages spent found log
kept s [] t h spent found law = tt
kept s (l ∷ ls) t (u, gives, h) spent found (law, later) =
    let moved = moves s l.call l.answer u gives in
    let ms = u.board.messages in
    let spent' = spent_after spent l.call l.answer in
    let found' = found_after found l.call l.answer in
    let rest = kept u ls t h spent' found' later in (
      law,
      (
        ms,
        moved.held,
        subst (λ (x : List Meaning). LogKept x s.board.gateway ms spent' found' ls) moved.rules
            (subst (λ (x : ℕ). LogKept u.board.rules x ms spent' found' ls) moved.gateway rest),
      ),
    )

-- of a board that stood at s when it was made
pub LogKept-from_law : (s : Standing) (rules : List Meaning) (gateway : ℕ) → s ≡ fresh (board_of rules gateway []) →
    ((ls : List logs.Line) → Happened s ls → LogLaw 0 false ls) → (log : List Line) (t : Standing) → Leads s log t → LogKept rules gateway [] 0 false log
LogKept-from_law s rules gateway e law log t h =
    subst (λ (x : Standing). LogKept x.board.rules x.board.gateway x.board.messages 0 false log) e
    (kept s log t h 0 false (law (lines s log t h) (happened s log t h)))

-- and leads from the start of the walk of a board without messages
pub log_is_kept : (s : Standing) (rules : List Meaning) (gateway : ℕ) → s ≡ fresh (board_of rules gateway []) →
    ((ls : List logs.Line) → Happened s ls → LogLaw 0 false ls) → (log : List Line) (t : Standing) → Leads s log t →
    LogKept rules gateway [] 0 false log × Leads (fresh (board_of rules gateway [])) log t
log_is_kept s rules gateway e law log t h = (LogKept-from_law s rules gateway e law log t h, subst (λ (x : Standing). Leads x log t) e h)
