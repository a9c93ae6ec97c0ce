-- How orders made by hand are read, from the highest rank down, and what their margins take. No public contract cites this file.
use Rattle.std.specs.Prelude.{◌≡◌, ℕ, ◌≤◌, cond, List, [], ◌∷◌, ◌++◌, length, drop, Some, None, Option, ◌==◌}
use Rattle.bus.specs.declared.message.Message.{Message}
use Rattle.search.specs.Deadlines.{delays}
use Rattle.search.specs.Net.{Leg, Net, same}
use Rattle.boards.specs.Nets.{leg_at, source_leg, is_local, destinations_of}
use Rattle.planner.specs.Checks.{across, margin_row}
use Rattle.planner.specs.declared.rows.Margin.{Margin}
use Rattle.planner.specs.declared.rows.Spot.{Spot}

-- the legs that the rows of a bus name
abbrev pub down_in : List Spot → ℕ → List Leg
down_in [] bus = []
down_in (r ∷ rows) bus = cond (r.bus == bus) (leg_at bus r.message ∷ down_in rows bus) (down_in rows bus)

-- what stands before x in a list
abbrev pub ahead : Leg → List Leg → List Leg
ahead x [] = []
ahead x (y ∷ l) = cond (same x y) [] (y ∷ ahead x l)

-- a delay, if there is one, is at most so long
abbrev pub AtMost : ℕ → Option ℕ → Type 0
AtMost limit None = Unit {0}
AtMost limit (Some d) = d ≤ limit

-- the rows that the margins of a message take
abbrev pub rows_for : Message → ℕ
rows_for m = cond (is_local m) 1 (length (destinations_of m))

-- the row of a pair
abbrev pub pair_row : Net → List (List Leg) → Message → ℕ → Margin
pair_row net os m bus = margin_row m bus (across net.gateway (delays net os (source_leg m)) (delays net os (leg_at bus m.number)))

-- `new` stands over the front of a list, n rows long, and the rest is as it was
pub record Written {X : Type 0} (new before after : List X) (n : ℕ) : Type 0 where
  pub count : n ≡ length new
  pub rows : after ≡ new ++ drop n before
