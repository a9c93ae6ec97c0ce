-- Where no message crosses, the tries of a walk are at most n(n+1)/2 added over the buses.
-- Then every leg is ready, and a ready leg that fits ends the testing at its rank.
use Rattle.std.proofs.Common.{◌≡◌, ℕ, suc, ◌+◌, ◌*◌, ◌/◌, ◌≤◌, Bool, true, List, [], ◌∷◌, length, Some, None, Option, refl, le_trans, suc-mul, mul-suc, arith}
use Rattle.std.specs.List.{AllByRecursion}
use Rattle.search.specs.Net.{Leg}
use Rattle.search.specs.Walk.{Walked, or_go_on, tested, test_all, fit, ready}
use Rattle.search.specs.Bound.{local_bound}
use Rattle.search.specs.Laws.{WithinLocalBound}
use Rattle.search.proofs.Bound.{buses-within}

-- ---------------------------------------------------------------- one rank
ready-ends : (n : ℕ) (o : Option (List (List Leg))) (r : Walked) → (or_go_on true n o r).tries ≡ n
ready-ends n (Some os) r = refl
ready-ends n None r = refl

-- the leg tested is ready, and what follows it takes at most y tries
ready-at_most : (o : Option ℕ) (b : Bool) (above : ℕ → Walked) (r : Walked) (y m : ℕ) →
    b ≡ true → ((d : ℕ) → (above d).tries ≤ y) → r.tries ≤ m + y → (tested o b above r).tries ≤ m + y
ready-at_most None b above r y m e h later = later
ready-at_most (Some d) b above r y m e h later =
    rw e (omega (arith, ready-ends (above d).tries (above d).outcome r, h d))

-- where every candidate is ready, and what follows each takes at most y tries
ready-tests_at_most : (fits : Leg → Option ℕ) (is_ready : Leg → Bool) (above : Leg → ℕ → Walked) (y : ℕ) →
    ((c : Leg) → is_ready c ≡ true) → (cs : List Leg) → AllByRecursion (λ c. (d : ℕ) → (above c d).tries ≤ y) cs →
    (test_all fits is_ready above cs).tries ≤ length cs + y
ready-tests_at_most fits is_ready above y all [] h = omega arith
ready-tests_at_most fits is_ready above y all (c ∷ cs) h =
    omega (
      arith,
      ready-at_most (fits c) (is_ready c) (above c) (test_all fits is_ready above cs) y (length cs) (all c) h.0
          (ready-tests_at_most fits is_ready above y all cs h.1),
    )

-- ---------------------------------------------------------------- one bus
-- m candidates at a rank, and n ranks above it
one_rank_more : (m n x : ℕ) → m ≤ suc n → m + ((n * suc n) / 2 + x) ≤ (suc n * suc (suc n)) / 2 + x
one_rank_more m n x h = omega (arith, mul-suc (suc n) (suc n), suc-mul n (suc n))

pub within-local_bound : WithinLocalBound
within-local_bound net none =
    buses-within net (λ n x. (n * suc n) / 2 + x) local_bound (λ l ls. refl) (λ n x. omega arith)
    (λ p l cs above n x short h.
    le_trans (ready-tests_at_most (fit net p l) (ready net p) above _ (λ c. rw none) cs h) (one_rank_more _ n x short)) net.buses (λ _. None)
