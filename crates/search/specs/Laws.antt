-- What is assumed of a net, and what is claimed of its walk.
use Rattle.std.specs.Prelude.{◌≡◌, ℕ, ◌≤◌, true, false, ◌&&◌, ◌||◌, List, [], ◌∷◌, Some, None}
use Rattle.std.specs.List.{list_all, list_any}
use Rattle.search.specs.Net.{Leg, Net, has, has_any, touches}
use Rattle.search.specs.Deadlines.{Meets}
use Rattle.search.specs.Walk.{walk}
use Rattle.search.specs.Bound.{bound, local_bound}

-- h is part of k
abbrev pub Part : List Leg → List Leg → Type 0
Part h k = (y : Leg) → has y h ≡ true → has y k ≡ true

-- no leg is on two buses
abbrev pub Apart : List (List Leg) → Type 0
Apart [] = Unit {0}
Apart (l ∷ ls) = ((y : Leg) → has y l ≡ true → has_any y ls ≡ false) × Apart ls

-- The delay law is all that is asked of the delays; the rest says that the net's lists belong together.
pub record Lawful (net : Net) : Type 0 where
  -- the delay law: with fewer legs above it a leg has a delay that is no longer
  pub shorter : (x : Leg) (h k : List Leg) (d : ℕ) → Part h k → net.delay x k ≡ Some d →
      (e : ℕ) × (net.delay x h ≡ Some e) × (e ≤ d)
  pub apart : Apart net.buses
  -- a leg on a bus is a local message's or in a pair
  pub each : (x : Leg) → has_any x net.buses ≡ true → (has x net.locals || list_any (touches x) net.pairs) ≡ true
  -- the local legs and the legs of each pair are on buses
  pub locals_on : list_all (λ x. has_any x net.buses) net.locals ≡ true
  pub pairs_on : list_all (λ pr. has_any pr.source net.buses && has_any pr.destination net.buses) net.pairs ≡ true

-- where the walk ends with orders, they meet the net
abbrev pub FoundMeets : Type 0
FoundMeets = (net : Net) → Lawful net → (os : List (List Leg)) → (walk net).outcome ≡ Some os → Meets net os

-- where the walk ends with none, no choice of one order for each bus meets it
abbrev pub NoneMeets : Type 0
NoneMeets = (net : Net) → Lawful net → (walk net).outcome ≡ None → (os : List (List Leg)) → Meets net os → ⊥

-- the tries of a walk are at most the bound
abbrev pub WithinBound : Type 0
WithinBound = (net : Net) → (walk net).tries ≤ bound net.buses

-- where no message crosses, they are at most n(n+1)/2 added over the buses
abbrev pub WithinLocalBound : Type 0
WithinLocalBound = (net : Net) → net.pairs ≡ [] → (walk net).tries ≤ local_bound net.buses
