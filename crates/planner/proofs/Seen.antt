-- The legs of a bus that are not yet in a set of seen messages.
use Rattle.std.proofs.Common.{◌≡◌, ℕ, true, false, not, ◌&&◌, ◌||◌, eqb, List, [], ◌∷◌, map, refl, arith}
use Rattle.std.specs.List.{list_all, filter}
use Rattle.std.proofs.lemmas.Bool.Decides.{nat_tests}
use Rattle.bus.specs.Numbered.{member}
use Rattle.bus.specs.Range.{inside, numbers}
use Rattle.bus.specs.declared.leg.Leg.{Leg as BusLeg}
use Rattle.search.specs.Net.{Leg, same, has, less}
use Rattle.search.specs.Stored.{is_empty}
use Rattle.search.proofs.Legs.{has_kept}
use Rattle.boards.specs.Nets.{leg_at, net_leg}

unfoldable pub unseen : ℕ → List Leg → List Leg
unseen bits l = filter (λ x. not (member bits x.message)) l

pub has-unseen : (bits bus n : ℕ) (l : List Leg) → has (leg_at bus n) (unseen bits l) ≡ (not (member bits n) && has (leg_at bus n) l)
unfolding unseen
has-unseen bits bus n l = has_kept (leg_at bus n) (λ x. not (member bits x.message)) l

-- one message more is seen
pub unseen-less : (bits more bus n : ℕ) → ((k : ℕ) → member more k ≡ (inside numbers n && eqb k n || member bits k)) → inside numbers n ≡ true →
    (legs : List BusLeg) → less (leg_at bus n) (unseen bits (map (net_leg bus) legs)) ≡ unseen more (map (net_leg bus) legs)
unfolding unseen same
unseen-less bits more bus n with' within [] = refl
unseen-less bits more bus n with' within (y ∷ ys) =
    grind (arith, nat_tests, unseen-less bits more bus n with' within ys, with' y.message.number, within)

pub unseen-all : (bits : ℕ) → ((k : ℕ) → member bits k ≡ false) → (l : List Leg) → unseen bits l ≡ l
unfolding unseen
unseen-all bits none [] = refl
unseen-all bits none (x ∷ l) = grind (arith, none x.message, unseen-all bits none l)

pub unseen-none : (bits : ℕ) (l : List Leg) → is_empty (unseen bits l) ≡ list_all (λ x. member bits x.message) l
unfolding unseen
unseen-none bits [] = refl
unseen-none bits (x ∷ l) = grind (arith, unseen-none bits l)
