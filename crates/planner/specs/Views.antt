-- A board as callers see it: where it stands.
use Rattle.std.specs.Prelude.{◌≡◌, ℕ, Bool, not, ◌&&◌, List, take, drop, Ok, Err, vec_items, Result}
use Rattle.bus.specs.Rules.{Meaning}
use Rattle.bus.specs.declared.refusal.Refusal.{Refusal}
use Rattle.search.specs.Stored as walk
use Rattle.boards.specs.Boards as boards
use Rattle.boards.specs.Nets.{net_of}
use Rattle.planner.specs.Logs.{Answer, done, refused, tried, looked, listed, checked}
use Rattle.planner.specs.Networks.{board_on}
use Rattle.planner.specs.Standing.{Standing}
use Rattle.planner.specs.Refusing.{is_none}
use Rattle.planner.specs.Stages.{is_complete, stage_of}
use Rattle.planner.specs.declared.board.Board.{Board}
use Rattle.planner.specs.declared.progress.Tried.{Tried}
use Rattle.planner.specs.declared.rows.Margin.{Margin}
use Rattle.planner.specs.declared.rows.Row.{Row}

-- its rules as functions, its gateway time and its messages; f is what a rule means
abbrev pub board_in : {S : Type 0} → (S → Meaning) → Board S → boards.Board
board_in f b = board_on f b.network

abbrev pub standing : {S : Type 0} → (S → Meaning) → Board S → Standing
standing f b =
    let net = net_of (board_in f b) in
    record { board = board_in f b; left = walk.left net (stage_of net (vec_items b.walk.ranked) b.walk.stage) }

-- the walk has ended with found
abbrev pub has_found : {S : Type 0} → Board S → Bool
has_found b = not (is_none b.network.table.messages.items) && is_complete b.walk.stage

-- what enter and withdraw answer, as a log has it
abbrev pub changed : Result (Unit {0}) Refusal → Answer
changed (Ok u) = done
changed (Err f) = refused f

-- the same of the other calls; rows and margins are the lent ones after the call
abbrev pub tries : Result Tried Refusal → Answer
tries (Ok t) = tried t.progress t.made
tries (Err f) = refused f

abbrev pub looks : Result (ℕ × ℕ) Refusal → Answer
looks (Ok r) = looked r.0 r.1
looks (Err f) = refused f

abbrev pub lists : List Row → Result ℕ Refusal → Answer
lists rows (Ok n) = listed (take n rows)
lists rows (Err f) = refused f

abbrev pub checks : List Margin → Result (Bool × ℕ) Refusal → Answer
checks margins (Ok r) = checked r.0 (take r.1 margins)
checks margins (Err f) = refused f

-- rows beyond the n that are counted keep their content; all do where the call is refused
abbrev pub KeepsRest : {X : Type 0} → Result ℕ Refusal → List X → List X → Type 0
KeepsRest (Ok n) before after = drop n after ≡ drop n before
KeepsRest (Err f) before after = after ≡ before

abbrev pub KeepsMargins : Result (Bool × ℕ) Refusal → List Margin → List Margin → Type 0
KeepsMargins (Ok r) before after = drop r.1 after ≡ drop r.1 before
KeepsMargins (Err f) before after = after ≡ before
