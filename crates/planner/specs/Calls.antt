-- What look and list show: the orders as rows, by bus and then by rank, from the highest down.
use Rattle.std.specs.Prelude.{ℕ, suc, cond, ◌&&◌, List, [], ◌∷◌, ◌++◌, length, Some, None, Option, ◌==◌}
use Rattle.std.specs.Option.{unwrap_or}
use Rattle.search.specs.Net.{Leg, Net}
use Rattle.planner.specs.declared.rows.Row.{Row}

-- An order has the lowest rank first: what stands behind a leg is above it.
abbrev pub rows_in : Net → ℕ → List Leg → List Row
rows_in net bus [] = []
rows_in net bus (x ∷ o) =
    rows_in net bus o ++ (record { bus = bus; rank = suc (length o); message = x.message; delay = unwrap_or (net.delay x o) 0 }) ∷ []

-- the orders of the buses from this one on
abbrev pub rows_from : Net → ℕ → List (List Leg) → List Row
rows_from net bus [] = []
rows_from net bus (o ∷ os) = rows_in net bus o ++ rows_from net (suc bus) os

abbrev pub rows_of : Net → List (List Leg) → List Row
rows_of net os = rows_from net 1 os

-- the row of a leg
abbrev pub row_at : ℕ → ℕ → List Row → Option Row
row_at bus n [] = None
row_at bus n (r ∷ rs) = cond (r.bus == bus && r.message == n) (Some r) (row_at bus n rs)
