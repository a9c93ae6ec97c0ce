-- The steps of loops over legs and over messages.
use Rattle.std.proofs.Common.{◌≡◌, ℕ, cond, ◌==◌, List, [], ◌∷◌, Some, refl, ap}
use Rattle.std.specs.List.{find}
use Rattle.bus.specs.Legs.{leg_of}
use Rattle.bus.specs.declared.leg.Leg.{Leg}

-- the leg of a message is the first that has its number
pub find_leg : (xs : List Leg) (n : ℕ) → find (λ x. x.message.number == n) xs ≡ leg_of xs n
find_leg [] n = refl
find_leg (x ∷ xs) n = ap (λ o. cond (x.message.number == n) (Some x) o) (find_leg xs n)
