-- The legs that are not ranked yet: p has no delay for them, none is on two buses, and ranking one of them leaves that so.
use Rattle.std.proofs.Common.{◌≡◌, ℕ, true, false, List, [], ◌∷◌, None, Option, arith}
use Rattle.search.specs.Net.{Leg, same, has, has_any, less, Delays}
use Rattle.search.specs.Walk.{put}
use Rattle.search.specs.Laws.{Apart}
use Rattle.search.proofs.Legs.{same-tells, has-less}

-- the legs of ls are open under the delays p, and each is on one bus
pub record Open (p : Delays) (ls : List (List Leg)) : Type 0 where
  pub apart : Apart ls
  pub none : (y : Leg) → has_any y ls ≡ true → p y ≡ None

-- without c, the other legs are those that they were
pub open-before : (c y : Leg) (l : List Leg) (ls : List (List Leg)) → has_any y (less c l ∷ ls) ≡ true → has_any y (l ∷ ls) ≡ true
open-before c y l ls h = grind (arith, has-less c y l)

pub open_after : (c y : Leg) (l : List Leg) (ls : List (List Leg)) → same c y ≡ false → has_any y (l ∷ ls) ≡ true →
    has_any y (less c l ∷ ls) ≡ true
open_after c y l ls e h = grind (arith, has-less c y l)

pub open-other : (c y : Leg) (l : List Leg) (ls : List (List Leg)) → Apart (l ∷ ls) → has c l ≡ true →
    has_any y (less c l ∷ ls) ≡ true → same c y ≡ false
open-other c y l ls a h m = grind (arith, has-less c y l, a.0 c h, same-tells c y)

pub open-ranked : (p : Delays) (c : Leg) (d : Option ℕ) (l : List Leg) (ls : List (List Leg)) → Open p (l ∷ ls) → has c l ≡ true →
    Open (put p c d) (less c l ∷ ls)
open-ranked p c d l ls o h = record {
  apart = ((λ y m. o.apart.0 y (grind (arith, has-less c y l))), o.apart.1);
  none = λ y m. grind (arith, open-other c y l ls o.apart h m, o.none y (open-before c y l ls m));
}

pub open-next_bus : (p : Delays) (ls : List (List Leg)) → Open p ([] ∷ ls) → Open p ls
open-next_bus p ls o = record { apart = o.apart.1; none = o.none }
