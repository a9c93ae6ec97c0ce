-- What is left of the rows tells whether the leg is named; and the set has, with what they name ahead of it, all that is named ahead.
use Rattle.std.proofs.Common.{◌≡◌, ℕ, ◌||◌, drop}
use Rattle.bus.specs.Numbered.{member}
use Rattle.search.specs.Net.{has}
use Rattle.boards.specs.Nets.{leg_at}
use Rattle.planner.specs.Spots.{down_in}
use Rattle.planner.proofs.RowsAhead.{named_ahead}
use Rattle.planner.proofs.margins.above_in.Given as goal

abbrev pub invariant-loop-row : goal.invariant-loop-row
invariant-loop-row l =
    (has (leg_at l.bus l.message) (down_in (drop l.row-index l.rows) l.bus) ≡ has (leg_at l.bus l.message) (down_in l.rows l.bus))
    × ((k : ℕ) → (member l.above.bits k || named_ahead (drop l.row-index l.rows) l.bus l.message k) ≡ named_ahead l.rows l.bus l.message k)
