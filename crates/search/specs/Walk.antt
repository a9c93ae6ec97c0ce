-- The walk: it fills bus after bus from the lowest rank up, one try for each leg that it tests, and takes rankings back where it is stuck.
-- It is stated whole, as what comes of it (the tries and the outcome), and not as steps.
use Rattle.std.specs.Prelude.{ℕ, zero, suc, ◌+◌, Bool, true, false, cond, not, ◌&&◌, ◌||◌, List, [], ◌∷◌, ◌++◌, length, is_some, Some, None, Option}
use Rattle.std.specs.Option.{option_map}
use Rattle.std.specs.List.{list_all, filter}
use Rattle.search.specs.Net.{Leg, same, Pair, Net, less, touches, Delays}
use Rattle.search.specs.Deadlines.{met}

-- ---------------------------------------------------------------- the test of one leg
-- Here p has the delays of the ranked legs; a leg is open while p has none for it.

abbrev pub put : Delays → Leg → Option ℕ → Delays
put p x d y = cond (same x y) d (p y)

abbrev pub or_else : Option ℕ → Option ℕ → Option ℕ
or_else None b = b
or_else (Some a) b = Some a

-- The delays that count while x is tested at the delay d: x has d, a ranked leg its delay, and an open leg the delay that it gets
-- with nothing above it.
abbrev pub counted : Net → Delays → Leg → ℕ → Delays
counted net p x d = put (λ y. or_else (p y) (net.delay y [])) x (Some d)

-- a pair of x's is in time by these delays; a pair of other legs does not count
abbrev pub passes : Net → Delays → Leg → ℕ → Pair → Bool
passes net p x d pr = not (touches x pr) || met net (counted net p x d) pr

abbrev pub fit_at : Net → Delays → Leg → Option ℕ → Option ℕ
fit_at net p x None = None
fit_at net p x (Some d) = cond (list_all (passes net p x d) net.pairs) (Some d) None

-- The delay with which x fits below the other open legs l of its bus; None where it does not fit.
abbrev pub fit : Net → Delays → List Leg → Leg → Option ℕ
fit net p l x = fit_at net p x (net.delay x (less x l))

-- x is ready when its partner in every pair is ranked
abbrev pub known : Delays → Leg → Leg → Bool
known p x y = same x y || is_some (p y)

abbrev pub partnered : Delays → Leg → Pair → Bool
partnered p x pr = not (touches x pr) || (known p x pr.source && known p x pr.destination)

abbrev pub ready : Net → Delays → Leg → Bool
ready net p x = list_all (partnered p x) net.pairs

-- what is tested at a rank, in this order: the ready legs, then the others, each by rising message number
abbrev pub candidates : Net → Delays → List Leg → List Leg
candidates net p l = filter (ready net p) l ++ filter (λ x. not (ready net p x)) l

-- ---------------------------------------------------------------- the whole walk
-- what comes of a walk: the number of tries, and the orders found, or None
pub record Walked : Type 0 where
  pub tries : ℕ
  pub outcome : Option (List (List Leg))

-- one try more
abbrev pub tick : Walked → Walked
tick r = record { tries = suc r.tries; outcome = r.outcome }

-- A leg fitted, and its ranking came to the tries n and the outcome o; r is what testing the remaining candidates comes to.
-- After a ready leg they are not tested.
abbrev pub or_go_on : Bool → ℕ → Option (List (List Leg)) → Walked → Walked
or_go_on is_ready n (Some os) r = record { tries = n; outcome = Some os }
or_go_on true n None r = record { tries = n; outcome = None }
or_go_on false n None r = record { tries = n + r.tries; outcome = r.outcome }

-- above is what comes of ranking the leg at a delay
abbrev pub tested : Option ℕ → Bool → (ℕ → Walked) → Walked → Walked
tested None is_ready above r = r
tested (Some d) is_ready above r = or_go_on is_ready (above d).tries (above d).outcome r

-- the candidates of one rank, one after another
abbrev pub test_all : (Leg → Option ℕ) → (Leg → Bool) → (Leg → ℕ → Walked) → List Leg → Walked
test_all fits is_ready above [] = record { tries = 0; outcome = None }
test_all fits is_ready above (c ∷ cs) = tick (tested (fits c) (is_ready c) (above c) (test_all fits is_ready above cs))

abbrev pub after : (List (List Leg) → List (List Leg)) → Walked → Walked
after f r = record { tries = r.tries; outcome = option_map f r.outcome }

-- one more leg at the low end of the first order
abbrev pub under : Leg → List (List Leg) → List (List Leg)
under x [] = []
under x (o ∷ os) = (x ∷ o) ∷ os

-- one more bus, with nothing ranked on it yet
abbrev pub new_bus : List (List Leg) → List (List Leg)
new_bus os = [] ∷ os

-- fills the at most n open legs l of one bus, and goes on to the buses after it by k
abbrev pub walk_bus : Net → ℕ → (Delays → Walked) → Delays → List Leg → Walked
walk_bus net zero k p l = after new_bus (k p)
walk_bus net (suc n) k p [] = after new_bus (k p)
walk_bus net (suc n) k p (y ∷ l) =
    test_all (fit net p (y ∷ l)) (ready net p)
    (λ c d. after (under c) (walk_bus net n k (put p c (Some d)) (less c (y ∷ l))))
    (candidates net p (y ∷ l))

abbrev pub walk_from : Net → List (List Leg) → Delays → Walked
walk_from net [] p = record { tries = 0; outcome = Some [] }
walk_from net (l ∷ ls) p = walk_bus net (length l) (walk_from net ls) p l

-- the walk from its start
abbrev pub walk : Net → Walked
walk net = walk_from net net.buses (λ _. None)
