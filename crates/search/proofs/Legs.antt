-- Laws of legs and of lists of legs: `same` is true exactly on equal legs; what `has` says of the lists that `less`, `filter` and
-- `candidates` make.
use Rattle.std.proofs.Common.{◌≡◌, ◌<◌, ◌≤◌, Bool, true, false, not, ◌&&◌, ◌||◌, eqb, ◌⊎◌, List, [], ◌∷◌, ◌++◌, length, refl, sym, ap, inl, inr, arith}
use Rattle.std.specs.List.{filter}
use Rattle.std.proofs.lemmas.List.Folds.{list_any-append}
use Rattle.std.proofs.lemmas.Map.Views.{any-filter_same}
use Rattle.std.proofs.lemmas.Bool.{and_parts, eqb-true, cases_Bool}
use Rattle.std.proofs.lemmas.Bool.Decides.{nat_tests}
use Rattle.search.specs.Net.{Leg, same, Net, has, less, Delays}
use Rattle.search.specs.Walk.{ready, candidates}

pub same-equal : (x y : Leg) → same x y ≡ true → x ≡ y
unfolding same
same-equal x y h =
    let both = and_parts (eqb x.bus y.bus) (eqb x.message y.message) h in
    λ i. record { bus = eqb-true x.bus y.bus both.0 i; message = eqb-true x.message y.message both.1 i }

pub same-itself : (x : Leg) → same x x ≡ true
unfolding same
same-itself x = grind (arith, nat_tests)

pub same-turned : (x y : Leg) → same x y ≡ same y x
unfolding same
same-turned x y = grind (arith, nat_tests)

-- the test with what it tells, for `grind`
pub same-tells : (x y : Leg) → ((same x y ≡ true) × (x ≡ y)) ⊎ (same x y ≡ false)
same-tells x y = elim (cases_Bool (same x y)) [ inl e ↦ inl (e, same-equal x y e) | inr e ↦ inr e ]

-- ---------------------------------------------------------------- less
pub has-less : (x y : Leg) (l : List Leg) → has y (less x l) ≡ (not (same x y) && has y l)
has-less x y [] = grind arith
has-less x y (z ∷ l) = grind (arith, has-less x y l, same-tells x z, same-tells y z, same-turned x y, same-itself)

pub less-twice : (x : Leg) (l : List Leg) → less x (less x l) ≡ less x l
less-twice x [] = refl
less-twice x (z ∷ l) = grind (arith, less-twice x l)

pub less-turned : (x y : Leg) (l : List Leg) → less x (less y l) ≡ less y (less x l)
less-turned x y [] = refl
less-turned x y (z ∷ l) = grind (arith, less-turned x y l)

pub less-at_most : (x : Leg) (l : List Leg) → length (less x l) ≤ length l
less-at_most x [] = omega arith
less-at_most x (z ∷ l) = grind (arith, less-at_most x l)

pub less-shorter : (x : Leg) (l : List Leg) → has x l ≡ true → length (less x l) < length l
less-shorter x [] h = grind arith
less-shorter x (z ∷ l) h = grind (arith, less-at_most x l, less-shorter x l)

-- ---------------------------------------------------------------- what is tested
pub has-append : (x : Leg) (h k : List Leg) → has x (h ++ k) ≡ (has x h || has x k)
has-append x h k = list_any-append (same x) h k

pub has_kept : (x : Leg) (f : Leg → Bool) (l : List Leg) → has x (filter f l) ≡ (f x && has x l)
has_kept x f l = any-filter_same (same x) f (f x) (λ y e. ap f (sym (same-equal x y e))) l

pub has-candidates : (net : Net) (p : Delays) (x : Leg) (l : List Leg) → has x (candidates net p l) ≡ has x l
has-candidates net p x l =
    grind (
      arith,
      has-append x (filter (ready net p) l) (filter (λ y. not (ready net p y)) l),
      has_kept x (ready net p) l,
      has_kept x (λ y. not (ready net p y)) l,
      cases_Bool (ready net p x),
    )
