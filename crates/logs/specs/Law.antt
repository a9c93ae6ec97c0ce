-- The law over a log, in the words of the board: the messages held at a moment, the tries given since the last change, and whether a try
-- has answered found since then.
use Rattle.std.specs.Prelude.{◌≡◌, ℕ, Bool, List, [], ◌∷◌, MatchBool}
use Rattle.bus.specs.Entries.{Holds}
use Rattle.bus.specs.Rules.{Meaning}
use Rattle.bus.specs.declared.message.Message.{Message}
use Rattle.boards.specs.Boards.{board_of}
use Rattle.planner.specs.Logs.{Call, enter, withdraw, attempt, look, list, check, Answer, accepted, spent_after, found_after, CallLaw}
use Rattle.planner.specs.Messages.{entered, withdrawn}
use Rattle.logs.specs.Lines.{Line}

-- the messages held before a line of a log and after it: an enter that was accepted adds the message with the values given, a withdraw
-- takes that of the number
abbrev pub Holding : List Message → Call → Answer → List Message → Type 0
Holding before (enter e) a after = MatchBool (accepted a) ((m : Message) × Holds e m × (after ≡ entered m before)) (after ≡ before)
Holding before (withdraw n) a after = MatchBool (accepted a) (after ≡ withdrawn n before) (after ≡ before)
Holding before (attempt n) a after = after ≡ before
Holding before (look bus n) a after = after ≡ before
Holding before (list lent) a after = after ≡ before
Holding before (check rows lent) a after = after ≡ before

-- each line of a log keeps the law of its call, on a board with these rules and this gateway time that holds `held` before the first line;
-- so many tries were given since the last change, and a try has answered found since then or has not
abbrev pub LogKept : List Meaning → ℕ → List Message → ℕ → Bool → List Line → Type 0
LogKept rules gateway held spent found [] = Unit {0}
LogKept rules gateway held spent found (l ∷ ls) =
    CallLaw (board_of rules gateway held) spent found l.call l.answer
    × ((after : List Message) × Holding held l.call l.answer after
    × LogKept rules gateway after (spent_after spent l.call l.answer) (found_after found l.call l.answer) ls)
