-- How many legs are ranked: with those that are not ranked yet, at most as many as there are.
use Rattle.std.proofs.Common.{◌≡◌, ℕ, ◌+◌, ◌<◌, ◌≤◌, true, List, [], ◌∷◌, length, Some, None, refl, arith}
use Rattle.search.specs.Net.{Leg, Net, has, less, Delays}
use Rattle.search.specs.Walk.{put}
use Rattle.search.specs.Machine.{Frame}
use Rattle.search.specs.Stored.{Ranked, Place, advance, filled_by, first_place, place_of, placed, leg_count}
use Rattle.search.proofs.Legs.{less-shorter}
use Rattle.search.proofs.Place.{advance-keeps, was_open, placed_below}

-- the legs that are not ranked at a place
abbrev unranked_at : Place → ℕ
unranked_at at = leg_count (at.open' ∷ at.later)

count_advance : (fs : List Frame) (p : Delays) (l : List Leg) (ls : List (List Leg)) → unranked_at (advance fs p l ls) ≡ leg_count (l ∷ ls)
count_advance fs p l ls =
    advance-keeps (λ _ _ k ks. leg_count (k ∷ ks) ≡ leg_count (l ∷ ls)) (λ fs p k ks h. omega (arith, h)) fs p l ls refl

count_first : (ls : List (List Leg)) → unranked_at (first_place ls) ≡ leg_count ls
count_first [] = refl
count_first (l ∷ ls) = count_advance [] (λ _. None) l ls

ranks_at : (net : Net) (rs : List Ranked) → placed net rs ≡ true → length rs + unranked_at (place_of net rs) ≤ leg_count net.buses
ranks_at net [] k = omega (arith, count_first net.buses)
ranks_at net (r ∷ rs) k =
    let at = place_of net rs in
    let rest = ranks_at net rs (placed_below net r rs k) in
    let fewer = less-shorter r.leg at.open' (was_open net r rs k) in
    omega (
      arith,
      rest,
      fewer,
      count_advance (filled_by net at r.leg ∷ at.frames) (put at.delays r.leg (Some r.delay)) (less r.leg at.open') at.later,
    )

pub ranked_at-most : (net : Net) (rs : List Ranked) → placed net rs ≡ true → length rs ≤ leg_count net.buses
ranked_at-most net rs k = omega (arith, ranks_at net rs k)

-- one more has room where a leg is open
pub ranked-fewer : (net : Net) (rs : List Ranked) → placed net rs ≡ true → (x : Leg) → has x (place_of net rs).open' ≡ true →
    length rs < leg_count net.buses
ranked-fewer net rs k x on = omega (arith, ranks_at net rs k, less-shorter x (place_of net rs).open' on)
