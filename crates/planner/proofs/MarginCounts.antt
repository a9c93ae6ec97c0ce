-- How many rows the margins take: whatever the orders, one for a local message, else one for each destination.
use Rattle.std.proofs.Common.{◌≡◌, ◌*◌, ◌≤◌, Bool, true, false, cond, List, [], ◌∷◌, length, sym, refl, ◌∙◌, subst, arith}
use Rattle.std.specs.List.{sum_by}
use Rattle.std.proofs.lemmas.List.{length-map}
use Rattle.std.proofs.lemmas.List.Concat.{length-flat_map}
use Rattle.std.proofs.lemmas.List.Sums.{count_by-le-length, length-filter, sum_by-cons}
use Rattle.bus.specs.Numbered.{member}
use Rattle.bus.specs.declared.message.Message.{Message}
use Rattle.search.specs.Net.{Leg, Net}
use Rattle.boards.specs.Boards.{Board}
use Rattle.boards.specs.Nets.{bus_numbers, is_local, destinations_of, net_of}
use Rattle.planner.specs.Checks.{margins_of, margin_rows}
use Rattle.planner.specs.Logs.{margin_count}
use Rattle.planner.specs.Spots.{rows_for}
use Rattle.planner.specs.declared.rows.Margin.{Margin}

pub length-margins_of : (net : Net) (os : List (List Leg)) (m : Message) → length (margins_of net os m) ≡ rows_for m
length-margins_of net os m = go (is_local m) _ _ (length-map (destinations_of m) _)
  where
    go : (t : Bool) (a : Margin) (b : List Margin) → length b ≡ length (destinations_of m) → length (cond t (a ∷ []) b) ≡ cond t 1 (length (destinations_of m))
    go true a b e = refl
    go false a b e = e

-- the rows of all messages
pub length-margin_rows : (b : Board) (os : List (List Leg)) → length (margin_rows b os) ≡ sum_by rows_for b.messages
length-margin_rows b os = length-flat_map (margins_of (net_of b) os) b.messages ∙ (λ i. sum_by (λ m. length-margins_of (net_of b) os m i) b.messages)

-- the orders do not count
pub margins_as_many : (b : Board) (os : List (List Leg)) → length (margin_rows b os) ≡ margin_count b
margins_as_many b os = length-margin_rows b os ∙ sym (length-margin_rows b [])

-- ---------------------------------------------------------------- they are few
destinations_of-few : (m : Message) → length (destinations_of m) ≤ 8
destinations_of-few m =
    subst (λ n. n ≤ 8) (sym (length-filter (member m.destinations) (bus_numbers 8))) (count_by-le-length (member m.destinations) (bus_numbers 8))

rows_for-few : (m : Message) → rows_for m ≤ 8
rows_for-few m = go (is_local m)
  where
    go : (t : Bool) → cond t 1 (length (destinations_of m)) ≤ 8
    go true = omega arith
    go false = destinations_of-few m

pub rows_for-sum_few : (ms : List Message) → sum_by rows_for ms ≤ 8 * length ms
rows_for-sum_few [] = omega arith
rows_for-sum_few (m ∷ ms) = omega (arith, sum_by-cons rows_for m ms, rows_for-few m, rows_for-sum_few ms)
