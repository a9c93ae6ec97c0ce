-- Orders, and when they meet the deadlines.
-- An order lists the legs of a bus from the lowest rank up to the highest, so what stands behind a leg is the set above it.
use Rattle.std.specs.Prelude.{◌≡◌, ℕ, ◌+◌, Bool, true, false, cond, List, [], ◌∷◌, is_some, Some, None, Option, nat_le}
use Rattle.std.specs.List.{list_all}
use Rattle.search.specs.Net.{Leg, same, Pair, Net, has, less, Delays}

-- o names each leg of l exactly once, and no other leg
abbrev pub Order : List Leg → List Leg → Type 0
Order [] l = l ≡ []
Order (x ∷ o) l = (has x l ≡ true) × Order o (less x l)

-- one order for each bus
abbrev pub Orders : List (List Leg) → List (List Leg) → Type 0
Orders [] [] = Unit {0}
Orders [] (l ∷ ls) = ⊥
Orders (o ∷ os) [] = ⊥
Orders (o ∷ os) (l ∷ ls) = Order o l × Orders os ls

-- the delay of a leg in an order of its bus: that below the legs of smaller rank
abbrev pub delay_in : Net → List Leg → Delays
delay_in net [] x = None
delay_in net (y ∷ o) x = cond (same y x) (net.delay y o) (delay_in net o x)

-- the same where each bus has an order
abbrev pub delays : Net → List (List Leg) → Delays
delays net [] x = None
delays net (o ∷ os) x = cond (has x o) (delay_in net o x) (delays net os x)

-- both legs have delays, and source delay + gateway time + destination delay is at most the deadline
abbrev pub in_time : ℕ → ℕ → Option ℕ → Option ℕ → Bool
in_time gateway deadline None b = false
in_time gateway deadline (Some a) None = false
in_time gateway deadline (Some a) (Some b) = nat_le (a + gateway + b) deadline

abbrev pub met : Net → Delays → Pair → Bool
met net q pr = in_time net.gateway pr.deadline (q pr.source) (q pr.destination)

-- the orders meet the net
pub record Meets (net : Net) (os : List (List Leg)) : Type 0 where
  pub orders : Orders os net.buses
  -- every local leg has a delay
  pub locals : list_all (λ x. is_some (delays net os x)) net.locals ≡ true
  -- every pair is in time
  pub pairs : list_all (met net (delays net os)) net.pairs ≡ true
