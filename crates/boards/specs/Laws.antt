-- What is claimed of every board: its net is lawful, and so the theorems of the walk hold of it.
use Rattle.std.specs.Prelude.{◌≡◌, ℕ, ◌≤◌, true, List, length, is_some, Some, None}
use Rattle.bus.specs.Legs.{leg_of, legs_on, rising}
use Rattle.bus.specs.Rules.{Meaning}
use Rattle.bus.specs.declared.message.Message.{Message}
use Rattle.std.specs.List.{list_all}
use Rattle.search.specs.Net.{Leg, has}
use Rattle.search.specs.Deadlines.{Meets}
use Rattle.search.specs.Walk.{walk}
use Rattle.search.specs.Bound.{bound, local_bound}
use Rattle.search.specs.Laws.{Lawful}
use Rattle.boards.specs.Boards.{Board, board_of, message_of, rising_messages, Belong, Sound}
use Rattle.search.specs.Stored.{distinct}
use Rattle.boards.specs.Nets.{leg_at, net_legs, leg_from, is_local, net_of}

-- ---------------------------------------------------------------- the walk
-- the net of a board keeps what the theorems of the walk assume
abbrev pub BoardLawful : Type 0
BoardLawful = (b : Board) → Sound b → Lawful (net_of b)

-- where the walk ends with orders, they meet the board
abbrev pub FoundOrdersMeet : Board → Type 0
FoundOrdersMeet b = (os : List (List Leg)) → (walk (net_of b)).outcome ≡ Some os → Meets (net_of b) os

-- where it ends with none, no orders meet the board, whichever order each bus is given
abbrev pub NoneMeansNone : Board → Type 0
NoneMeansNone b = (walk (net_of b)).outcome ≡ None → (os : List (List Leg)) → Meets (net_of b) os → ⊥

abbrev pub TriesWithinBound : Board → Type 0
TriesWithinBound b = (walk (net_of b)).tries ≤ bound (net_of b).buses

-- where no message crosses: n(n+1)/2 added over the buses, n the number of legs of a bus
abbrev pub TriesWithinLocalBound : Board → Type 0
TriesWithinLocalBound b = list_all is_local b.messages ≡ true → (walk (net_of b)).tries ≤ local_bound (net_of b).buses

pub record WalkLaws (b : Board) : Type 0 where
  pub found : FoundOrdersMeet b
  pub none : NoneMeansNone b
  pub tries : TriesWithinBound b
  pub local_tries : TriesWithinLocalBound b

abbrev pub WalkLawsHold : Type 0
WalkLawsHold = (b : Board) → Sound b → WalkLaws b

-- the boards with these rules, at most 8: every gateway time, and all messages that belong there
abbrev pub WalkLawsOver : List Meaning → Type 0
WalkLawsOver rules = (gateway : ℕ) (ms : List Message) → length rules ≤ 8 → Belong (length rules) ms →
    Sound (board_of rules gateway ms) × WalkLaws (board_of rules gateway ms)

-- ---------------------------------------------------------------- the lists of the net
-- the legs of a bus stand by rising message number
abbrev pub LegsRise : Type 0
LegsRise = (ms : List Message) (bus : ℕ) → rising_messages ms ≡ true → rising (legs_on ms bus) ≡ true

-- no bus has a leg twice
abbrev pub LegsDistinct : Type 0
LegsDistinct = (b : Board) → Sound b → list_all distinct (net_of b).buses ≡ true

-- a rule is shown a leg of a message exactly where the net's list of that bus has it
abbrev pub LegsListed : Type 0
LegsListed = (ms : List Message) (bus n : ℕ) → is_some (leg_of (legs_on ms bus) n) ≡ has (leg_at bus n) (net_legs ms bus)

-- and it is the leg of the message with that number
abbrev pub LegsOfMessages : Type 0
LegsOfMessages = (ms : List Message) (bus n : ℕ) → rising_messages ms ≡ true → leg_of (legs_on ms bus) n ≡ leg_from bus (message_of ms n)
