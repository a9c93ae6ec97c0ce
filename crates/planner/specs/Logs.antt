-- A board's log, and the law that every log keeps. A log is the list of all calls made on a board since its making, with their answers,
-- oldest first.
use Rattle.std.specs.Prelude.{◌≡◌, ℕ, ◌+◌, ◌-◌, ◌≤◌, min, Bool, true, false, cond, List, [], ◌∷◌, length, is_some, Some, None, Option, ◌≢◌, nat_le}
use Rattle.bus.specs.Entries.{Holds}
use Rattle.bus.specs.declared.entry.Entry.{Entry}
use Rattle.bus.specs.declared.message.Message.{Message}
use Rattle.bus.specs.declared.refusal.Refusal.{Refusal}
use Rattle.std.specs.List.{list_all}
use Rattle.search.specs.Net.{Leg}
use Rattle.search.specs.Bound.{bound, local_bound}
use Rattle.search.specs.Deadlines.{Meets}
use Rattle.search.specs.Machine.{left_after}
use Rattle.search.specs.Walk.{walk}
use Rattle.boards.specs.Boards.{Board, board_of, bus_count, Sound}
use Rattle.boards.specs.Nets.{is_local, net_of}
use Rattle.planner.specs.Calls.{rows_of, row_at}
use Rattle.planner.specs.Checks.{orders_in, named, margin_rows, all_met}
use Rattle.planner.specs.Messages.{entered, withdrawn}
use Rattle.planner.specs.Refusing.{enter_fault, withdraw_fault, try_fault, look_fault, list_fault, check_fault}
use Rattle.planner.specs.Standing.{Standing, fresh, end_of, progress_of, found_orders}
use Rattle.planner.specs.declared.progress.Progress.{Progress}
use Rattle.planner.specs.declared.progress.Progress.TheVariants.{Found, Nothing, GoingOn}
use Rattle.planner.specs.declared.rows.Margin.{Margin}
use Rattle.planner.specs.declared.rows.Row.{Row}
use Rattle.planner.specs.declared.rows.Spot.{Spot}

-- ---------------------------------------------------------------- calls and answers
-- list and check are lent so many rows
pub data Call : Type 0 where
  enter : Entry → Call
  withdraw : ℕ → Call
  attempt : ℕ → Call
  look : ℕ → ℕ → Call
  list : ℕ → Call
  check : List Spot → ℕ → Call

pub data Answer : Type 0 where
  done : Answer
  refused : Refusal → Answer
  tried : Progress → ℕ → Answer
  looked : ℕ → ℕ → Answer
  listed : List Row → Answer
  checked : Bool → List Margin → Answer

-- the rows that list fills, and those that check does
abbrev pub row_count : Board → Option (List (List Leg)) → ℕ
row_count b None = 0
row_count b (Some os) = length (rows_of (net_of b) os)

abbrev pub margin_count : Board → ℕ
margin_count b = length (margin_rows b [])

-- a refused call leaves all as it was; P is what an accepted one does
abbrev pub Unless : Option Refusal → Standing → Answer → Standing → Type 0 → Type 0
Unless None s a t P = P
Unless (Some f) s a t P = (a ≡ refused f) × (t ≡ s)

abbrev pub with_messages : Board → List Message → Board
with_messages b ms = board_of b.rules b.gateway ms

-- a call on a board that stands at s answers a and leaves it at t
abbrev pub Gives : Standing → Call → Answer → Standing → Type 0
Gives s (enter e) a t =
    let b = s.board in
    Unless (enter_fault (bus_count b) b.messages e) s a t
    ((m : Message) × Holds e m × (a ≡ done) × (t ≡ fresh (with_messages b (entered m b.messages))))
Gives s (withdraw n) a t =
    let b = s.board in
    Unless (withdraw_fault b.messages n) s a t ((a ≡ done) × (t ≡ fresh (with_messages b (withdrawn n b.messages))))
Gives s (attempt n) a t =
    Unless (try_fault s.board.messages n) s a t
    ((a ≡ tried (progress_of (left_after n s.left)) (min n s.left.tries)) × (t ≡ record { board = s.board; left = left_after n s.left }))
Gives s (look bus n) a t =
    let b = s.board in
    Unless (look_fault (bus_count b) b.messages (is_some (found_orders s)) bus n) s a t
    ((os : List (List Leg)) × (found_orders s ≡ Some os) × (r : Row) × (row_at bus n (rows_of (net_of b) os) ≡ Some r) × (a ≡ looked r.rank r.delay)
    × (t ≡ s))
Gives s (list lent) a t =
    let b = s.board in
    Unless (list_fault (is_some (found_orders s)) lent (row_count b (found_orders s))) s a t
    ((os : List (List Leg)) × (found_orders s ≡ Some os) × (a ≡ listed (rows_of (net_of b) os)) × (t ≡ s))
Gives s (check rows lent) a t =
    let b = s.board in
    let os = orders_in (bus_count b) rows in
    Unless (check_fault b.messages (named (bus_count b) b.messages rows) lent (margin_count b)) s a t
    ((a ≡ checked (all_met (net_of b) os) (margin_rows b os)) × (t ≡ s))

-- ---------------------------------------------------------------- logs
-- a line of a log, with the board as it was before the call
pub record Line : Type 0 where
  pub before : Board
  pub call : Call
  pub answer : Answer

-- the calls of a log, made on a board that stands at s, give its answers
abbrev pub Happened : Standing → List Line → Type 0
Happened s [] = Unit {0}
Happened s (l ∷ ls) = (t : Standing) × (l.before ≡ s.board) × Gives s l.call l.answer t × Happened t ls

-- an enter or a withdraw that was accepted is a change
abbrev pub accepted : Answer → Bool
accepted done = true
accepted (refused f) = false
accepted (tried p n) = false
accepted (looked n d) = false
accepted (listed rs) = false
accepted (checked m rs) = false

-- the tries given to accepted try calls since the last change: so far, and with one line more
abbrev pub or_spent : ℕ → ℕ → Answer → ℕ
or_spent spent n done = spent
or_spent spent n (refused f) = spent
or_spent spent n (tried p k) = spent + n
or_spent spent n (looked k d) = spent
or_spent spent n (listed rs) = spent
or_spent spent n (checked m rs) = spent

abbrev pub spent_after : ℕ → Call → Answer → ℕ
spent_after spent (enter e) a = cond (accepted a) 0 spent
spent_after spent (withdraw n) a = cond (accepted a) 0 spent
spent_after spent (attempt n) a = or_spent spent n a
spent_after spent (look bus n) a = spent
spent_after spent (list lent) a = spent
spent_after spent (check rows lent) a = spent

-- whether a try has answered found since the last change
abbrev pub is_found : Progress → Bool
is_found Found = true
is_found Nothing = false
is_found GoingOn = false

abbrev pub or_found : Bool → Answer → Bool
or_found found done = found
or_found found (refused f) = found
or_found found (tried p k) = is_found p
or_found found (looked k d) = found
or_found found (listed rs) = found
or_found found (checked m rs) = found

abbrev pub found_after : Bool → Call → Answer → Bool
found_after found (enter e) a = cond (accepted a) false found
found_after found (withdraw n) a = cond (accepted a) false found
found_after found (attempt n) a = or_found found a
found_after found (look bus n) a = found
found_after found (list lent) a = found
found_after found (check rows lent) a = found

-- ---------------------------------------------------------------- the law
-- An accepted try call on the board b: n tries were given, `spent` before it since the last change; it answered p, with k tries made.
pub record TryLaw (b : Board) (spent n : ℕ) (p : Progress) (k : ℕ) : Type 0 where
  -- the answer is the walk's end once the sum comes to the walk's tries, and going on before
  pub stands : p ≡ cond (nat_le (walk (net_of b)).tries (spent + n)) (end_of (walk (net_of b)).outcome) GoingOn
  -- the tries made in this call
  pub makes : k ≡ min (spent + n) (walk (net_of b)).tries - min spent (walk (net_of b)).tries
  -- none means that no choice of one order for each bus meets the board
  pub none : p ≡ Nothing → (os : List (List Leg)) → Meets (net_of b) os → ⊥
  -- once the sum is at least the bound, the walk has ended; where no message crosses, n(n+1)/2 added over the buses is enough
  pub ends : bound (net_of b).buses ≤ spent + n → p ≢ GoingOn
  pub ends_local : list_all is_local b.messages ≡ true → local_bound (net_of b).buses ≤ spent + n → p ≢ GoingOn

abbrev pub TriedLaw : Board → ℕ → ℕ → Answer → Type 0
TriedLaw b spent n done = Unit {0}
TriedLaw b spent n (refused f) = Unit {0}
TriedLaw b spent n (tried p k) = TryLaw b spent n p k
TriedLaw b spent n (looked k d) = Unit {0}
TriedLaw b spent n (listed rs) = Unit {0}
TriedLaw b spent n (checked m rs) = Unit {0}

-- after a try that answered found, up to the next change, a list shows orders that meet the board
abbrev pub ListedLaw : Board → Bool → Answer → Type 0
ListedLaw b found done = Unit {0}
ListedLaw b found (refused f) = Unit {0}
ListedLaw b found (tried p k) = Unit {0}
ListedLaw b found (looked k d) = Unit {0}
ListedLaw b found (listed rs) = found ≡ true → (os : List (List Leg)) × Meets (net_of b) os × (rs ≡ rows_of (net_of b) os)
ListedLaw b found (checked m rs) = Unit {0}

abbrev pub CallLaw : Board → ℕ → Bool → Call → Answer → Type 0
CallLaw b spent found (enter e) a = Unit {0}
CallLaw b spent found (withdraw n) a = Unit {0}
CallLaw b spent found (attempt n) a = TriedLaw b spent n a
CallLaw b spent found (look bus n) a = Unit {0}
CallLaw b spent found (list lent) a = ListedLaw b found a
CallLaw b spent found (check rows lent) a = Unit {0}

-- the law of each line
abbrev pub LogLaw : ℕ → Bool → List Line → Type 0
LogLaw spent found [] = Unit {0}
LogLaw spent found (l ∷ ls) =
    CallLaw l.before spent found l.call l.answer
    × LogLaw (spent_after spent l.call l.answer) (found_after found l.call l.answer) ls

-- every log of a sound board, from its making on, keeps the law
abbrev pub EveryLogKeepsTheLaw : Type 0
EveryLogKeepsTheLaw = (b : Board) → Sound b → (log : List Line) → Happened (fresh b) log → LogLaw 0 false log
