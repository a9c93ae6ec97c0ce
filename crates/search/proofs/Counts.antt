-- The open legs of a bus: the candidates of a rank are as many, and to rank one of them leaves fewer.
use Rattle.std.proofs.Common.{◌≡◌, ℕ, ◌<◌, not, List, [], ◌∷◌, length, Some, refl, arith}
use Rattle.std.specs.List.{AllByRecursion}
use Rattle.std.proofs.ByRecursion.{All-append, all_kept_by, All-weaker}
use Rattle.std.proofs.lemmas.List.Filters.{length-filter_both}
use Rattle.std.proofs.lemmas.List.{length-append}
use Rattle.search.proofs.Legs.{same-itself, less-at_most}
use Rattle.search.specs.Net.{Leg, Net, less, Delays}
use Rattle.search.specs.Walk.{Walked, put, ready, candidates, after, under, walk_bus}

-- each leg of a list leaves a shorter one
each_shortens : (l : List Leg) → AllByRecursion (λ x. length (less x l) < length l) l
each_shortens [] = tt
each_shortens (y ∷ l) =
    (grind (arith, same-itself y, less-at_most y l), All-weaker _ _ (λ x h. grind (arith, h)) l (each_shortens l))

pub candidates-count : (net : Net) (p : Delays) (l : List Leg) → length (candidates net p l) ≡ length l
candidates-count net p l =
    simp length-append (omega (arith, length-filter_both (ready net p) (λ x. not (ready net p x)) (λ _. refl) l))

-- what holds of each leg that leaves fewer open holds of each candidate
pub candidates-each : (net : Net) (p : Delays) (l : List Leg) (P : Leg → Type 0) →
    ((c : Leg) → length (less c l) < length l → P c) → AllByRecursion P (candidates net p l)
candidates-each net p l P h =
    let each : AllByRecursion P l = All-weaker _ P h l (each_shortens l) in
    search (All-append, all_kept_by)

-- what comes of ranking c at the delay d, where the legs l are open; n is room enough for those that stay open
abbrev pub ranking : Net → ℕ → (Delays → Walked) → Delays → List Leg → Leg → ℕ → Walked
ranking net n k p l c d = after (under c) (walk_bus net n k (put p c (Some d)) (less c l))
