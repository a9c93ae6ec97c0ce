-- The turns of the test that the rows come by bus.
use Rattle.std.proofs.Common.{◌≡◌, ℕ, ◌<◌, ◌≤◌, false, List, ◌∷◌, arith}
use Rattle.std.proofs.lemmas.Bool.Decides.{nat_tests}
use Rattle.planner.specs.Checks.{by_bus}
use Rattle.planner.specs.declared.rows.Spot.{Spot}

pub row_in_turn : (low high : ℕ) (r : Spot) (rows : List Spot) → low ≤ r.bus → r.bus ≤ high → by_bus low high (r ∷ rows) ≡ by_bus r.bus high rows
row_in_turn low high r rows p q = grind (arith, nat_tests)

pub row_too_low : (low high : ℕ) (r : Spot) (rows : List Spot) → r.bus < low → by_bus low high (r ∷ rows) ≡ false
row_too_low low high r rows p = grind (arith, nat_tests)

pub row_too_high : (low high : ℕ) (r : Spot) (rows : List Spot) → high < r.bus → by_bus low high (r ∷ rows) ≡ false
row_too_high low high r rows p = grind (arith, nat_tests)
