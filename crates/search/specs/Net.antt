-- The net that is planned: legs on buses, the pairs that cross the gateway, and the delay of a leg below others.
use Rattle.std.specs.Prelude.{ℕ, Bool, false, cond, ◌&&◌, ◌||◌, List, [], ◌∷◌, Option, ◌==◌}

-- a leg: a message on one bus
pub record Leg : Type 0 where
  pub bus : ℕ
  pub message : ℕ

unfoldable pub same : Leg → Leg → Bool
same x y = x.bus == y.bus && x.message == y.message

-- a pair: the source leg and one destination leg of a message that crosses, and the message's deadline
pub record Pair : Type 0 where
  pub source : Leg
  pub destination : Leg
  pub deadline : ℕ

pub record Net : Type 0 where
  -- for each bus its legs, by rising message number
  pub buses : List (List Leg)
  -- the delay of a leg below the legs of a list, by the rule of its bus; None where it is over
  pub delay : Leg → List Leg → Option ℕ
  -- the legs of the messages that stay on one bus
  pub locals : List Leg
  pub pairs : List Pair
  -- the gateway's time
  pub gateway : ℕ

-- x is among the legs of a list, or of one of several lists
abbrev pub has : Leg → List Leg → Bool
has x [] = false
has x (y ∷ l) = same x y || has x l

abbrev pub has_any : Leg → List (List Leg) → Bool
has_any x [] = false
has_any x (l ∷ ls) = has x l || has_any x ls

-- the list without x
abbrev pub less : Leg → List Leg → List Leg
less x [] = []
less x (y ∷ l) = cond (same x y) (less x l) (y ∷ less x l)

-- x is an end of the pair
abbrev pub touches : Leg → Pair → Bool
touches x pr = same x pr.source || same x pr.destination

-- delays by leg; a leg without one is None
abbrev pub Delays : Type 0
Delays = Leg → Option ℕ
