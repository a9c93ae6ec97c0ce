-- The tries of a walk are at most the bound.
use Rattle.std.proofs.Common.{◌≡◌, refl, ℕ, zero, suc, ◌+◌, ◌*◌, ◌≤◌, Bool, true, false, List, [], ◌∷◌, length, Some, None, Option, le_trans, mul-le-mul_right, suc-mul, one-add, arith}
use Rattle.std.specs.List.{AllByRecursion}
use Rattle.search.specs.Net.{Leg, Net, less, Delays}
use Rattle.search.specs.Walk.{Walked, or_go_on, tested, test_all, walk_bus, walk_from, put, fit, ready, candidates}
use Rattle.search.specs.Bound.{F, bound}
use Rattle.search.specs.Laws.{WithinBound}
use Rattle.search.proofs.Counts.{candidates-count, candidates-each, ranking}

-- ---------------------------------------------------------------- one rank
go_on_at-most : (b : Bool) (n : ℕ) (o : Option (List (List Leg))) (r : Walked) → (or_go_on b n o r).tries ≤ n + r.tries
go_on_at-most b n (Some os) r = omega arith
go_on_at-most true n None r = omega arith
go_on_at-most false n None r = omega arith

tested-at_most : (o : Option ℕ) (b : Bool) (above : ℕ → Walked) (r : Walked) (y : ℕ) →
    ((d : ℕ) → (above d).tries ≤ y) → (tested o b above r).tries ≤ y + r.tries
tested-at_most None b above r y h = omega arith
tested-at_most (Some d) b above r y h =
    omega (arith, go_on_at-most b (above d).tries (above d).outcome r, h d)

-- where what follows each candidate takes at most y tries
tests_at-most : (fits : Leg → Option ℕ) (is_ready : Leg → Bool) (above : Leg → ℕ → Walked) (y : ℕ) (cs : List Leg) →
    AllByRecursion (λ c. (d : ℕ) → (above c d).tries ≤ y) cs → (test_all fits is_ready above cs).tries ≤ length cs * suc y
tests_at-most fits is_ready above y [] h = omega arith
tests_at-most fits is_ready above y (c ∷ cs) h =
    omega (
      arith,
      tested-at_most (fits c) (is_ready c) (above c) (test_all fits is_ready above cs) y h.0,
      tests_at-most fits is_ready above y cs h.1,
      suc-mul (length cs) (suc y),
    )

-- ---------------------------------------------------------------- one bus
f-no_less : (n x : ℕ) → x ≤ F n x
f-no_less zero x = omega arith
f-no_less (suc n) x = omega (arith, f-no_less n x, suc-mul n (1 + F n x))

rank_at_most : (m n y : ℕ) → m ≤ n → m * suc y ≤ n * (1 + y)
rank_at_most m n y h = rw one-add (mul-le-mul_right (suc y) h)

-- ---------------------------------------------------------------- all buses
-- a bound B that is made of a bound G of a bus of n legs, where what comes after it takes at most x tries
module _ (net : Net) (G : ℕ → ℕ → ℕ) (B : List (List Leg) → ℕ) (step : (l : List Leg) (ls : List (List Leg)) → B (l ∷ ls) ≡ G (length l) (B ls))
    (low : (n x : ℕ) → x ≤ G n x)
    (rank : (p : Delays) (l cs : List Leg) (above : Leg → ℕ → Walked) (n x : ℕ) → length cs ≤ suc n →
    AllByRecursion (λ c. (d : ℕ) → (above c d).tries ≤ G n x) cs → (test_all (fit net p l) (ready net p) above cs).tries ≤ G (suc n) x)
  where
    bus-within : (k : Delays → Walked) (x : ℕ) → ((p : Delays) → (k p).tries ≤ x) →
        (n : ℕ) (p : Delays) (l : List Leg) → length l ≤ n → (walk_bus net n k p l).tries ≤ G n x
    bus-within k x h zero p l short = le_trans (h p) (low zero x)
    bus-within k x h (suc n) p [] short = le_trans (h p) (low (suc n) x)
    bus-within k x h (suc n) p (y ∷ l) short =
        rank p (y ∷ l) (candidates net p (y ∷ l)) (ranking net n k p (y ∷ l)) n x (rw candidates-count short)
        (candidates-each net p (y ∷ l) (λ c. (d : ℕ) → (ranking net n k p (y ∷ l) c d).tries ≤ G n x)
        (λ c fewer d. bus-within k x h n (put p c (Some d)) (less c (y ∷ l)) (omega arith)))

    pub buses-within : (ls : List (List Leg)) (p : Delays) → (walk_from net ls p).tries ≤ B ls
    buses-within [] p = omega arith
    buses-within (l ∷ ls) p = rw step (bus-within (walk_from net ls) (B ls) (buses-within ls) (length l) p l (omega arith))

pub within-bound : WithinBound
within-bound net =
    buses-within net F bound (λ l ls. refl) f-no_less
    (λ p l cs above n x short h.
    le_trans (tests_at-most (fit net p l) (ready net p) above (F n x) cs h) (rank_at_most _ (suc n) (F n x) short)) net.buses (λ _. None)
