-- The recursion that fills a bus is given a number, its room. Any room of at least the open legs comes to the same.
use Rattle.std.proofs.Common.{◌≡◌, ℕ, zero, suc, ◌<◌, ◌≤◌, Bool, List, [], ◌∷◌, length, Some, None, Option, refl, ap, arith}
use Rattle.std.specs.List.{AllByRecursion}
use Rattle.search.specs.Net.{Leg, Net, less, Delays}
use Rattle.search.specs.Walk.{Walked, tick, or_go_on, tested, test_all, walk_bus, walk_from, put, fit, ready, candidates, after, under}
use Rattle.search.specs.Machine.{explore, testing}
use Rattle.search.proofs.Counts.{candidates-each, ranking}

-- the same comes of the tests where the same comes of what follows each leg
tested-same : (o : Option ℕ) (b : Bool) (f g : ℕ → Walked) (r s : Walked) →
    ((d : ℕ) → f d ≡ g d) → r ≡ s → tested o b f r ≡ tested o b g s
tested-same None b f g r s h e = e
tested-same (Some d) b f g r s h e = λ i. or_go_on b (h d i).tries (h d i).outcome (e i)

tests_same : (fits : Leg → Option ℕ) (is_ready : Leg → Bool) (f g : Leg → ℕ → Walked) (cs : List Leg) →
    AllByRecursion (λ c. (d : ℕ) → f c d ≡ g c d) cs → test_all fits is_ready f cs ≡ test_all fits is_ready g cs
tests_same fits is_ready f g [] h = refl
tests_same fits is_ready f g (c ∷ cs) h =
    ap tick (tested-same (fits c) (is_ready c) (f c) (g c) _ _ h.0 (tests_same fits is_ready f g cs h.1))

-- the candidates of a rank, where each is ranked with the room f or with the room g
tests-in_rooms : (net : Net) (k : Delays → Walked) (p : Delays) (l : List Leg) (f g : Leg → ℕ) →
    ((c : Leg) (d : ℕ) → length (less c l) < length l →
    walk_bus net (f c) k (put p c (Some d)) (less c l) ≡ walk_bus net (g c) k (put p c (Some d)) (less c l)) →
    test_all (fit net p l) (ready net p) (λ c. ranking net (f c) k p l c) (candidates net p l)
    ≡ test_all (fit net p l) (ready net p) (λ c. ranking net (g c) k p l c) (candidates net p l)
tests-in_rooms net k p l f g h =
    tests_same _ _ _ _ _ (candidates-each net p l _ (λ c fewer d. ap (after (under c)) (h c d fewer)))

-- n and m are both room enough
any_room : (net : Net) (k : Delays → Walked) (n m : ℕ) (p : Delays) (l : List Leg) → length l ≤ n → length l ≤ m →
    walk_bus net n k p l ≡ walk_bus net m k p l
any_room net k zero zero p l h j = refl
any_room net k zero (suc m) p [] h j = refl
any_room net k zero (suc m) p (y ∷ l) h j = absurd (omega arith)
any_room net k (suc n) zero p [] h j = refl
any_room net k (suc n) zero p (y ∷ l) h j = absurd (omega arith)
any_room net k (suc n) (suc m) p [] h j = refl
any_room net k (suc n) (suc m) p (y ∷ l) h j =
    tests-in_rooms net k p (y ∷ l) (λ _. n) (λ _. m) (λ c d fewer. any_room net k n m _ _ (omega arith) (omega arith))

-- to explore from a rank is to test its candidates
pub explore-tests : (net : Net) (p : Delays) (y : Leg) (l : List Leg) (ls : List (List Leg)) →
    explore net p (y ∷ l) ls ≡ testing net p (y ∷ l) ls (candidates net p (y ∷ l))
explore-tests net p y l ls =
    tests-in_rooms net (walk_from net ls) p (y ∷ l) (λ _. length l) (λ c. length (less c (y ∷ l)))
    (λ c d fewer. any_room net (walk_from net ls) (length l) (length (less c (y ∷ l))) _ _ (omega arith) (omega arith))
