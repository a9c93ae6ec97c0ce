-- What the test of an order comes to: its legs are legs of the bus, none stands twice, and every leg of the bus is there. So it is the same
-- from the other end.
use Rattle.std.proofs.Common.{◌≡◌, ℕ, Bool, true, not, ◌&&◌, eqb, List, [], ◌∷◌, ◌++◌, map, reverse, sym, refl, ap, ◌∙◌, arith}
use mathlib.Core.List.{reverse-cons}
use Rattle.std.specs.List.{list_all, filter}
use Rattle.std.proofs.lemmas.Bool.{and_parts, true≢false}
use Rattle.std.proofs.lemmas.Bool.Decides.{nat_tests}
use Rattle.search.specs.Deadlines.{Order}
use Rattle.search.specs.Net.{Leg, has, less}
use Rattle.search.specs.Stored.{is_empty, distinct}
use Rattle.search.proofs.Legs.{same-turned, same-tells, has-less, has-append}
use Rattle.boards.specs.Nets.{leg_at}
use Rattle.planner.specs.Checks.{is_order, order_in}
use Rattle.planner.specs.Spots.{down_in}
use Rattle.planner.specs.declared.rows.Spot.{Spot}
use Rattle.planner.proofs.Reversed.{map-reverse, list_all-reverse}

-- ---------------------------------------------------------------- the list without one leg
list_all-but : (x : Leg) (l o : List Leg) → list_all (λ z. has z (less x l)) o ≡ (not (has x o) && list_all (λ z. has z l) o)
list_all-but x l [] = refl
list_all-but x l (z ∷ o) = grind (arith, list_all-but x l o, has-less x z l)

list_all-less : (x : Leg) (o l : List Leg) → list_all (λ y. has y o) (less x l) ≡ list_all (λ y. has y (x ∷ o)) l
list_all-less x o [] = refl
list_all-less x o (y ∷ l) = grind (arith, list_all-less x o l, same-turned x y)

-- ---------------------------------------------------------------- the test
abbrev orderly : List Leg → List Leg → Bool
orderly o l = list_all (λ x. has x l) o && (distinct o && list_all (λ y. has y o) l)

is_order-orderly : (o l : List Leg) → is_order o l ≡ orderly o l
is_order-orderly [] [] = refl
is_order-orderly [] (y ∷ l) = refl
is_order-orderly (x ∷ o) l = grind (arith, is_order-orderly o (less x l), list_all-but x l o, list_all-less x o l)

-- ---------------------------------------------------------------- from the other end
pub has-reverse : (x : Leg) (l : List Leg) → has x (reverse l) ≡ has x l
has-reverse x [] = refl
has-reverse x (y ∷ l) = ap (has x) (reverse-cons y l) ∙ has-append x (reverse l) (y ∷ []) ∙ grind (arith, has-reverse x l)

distinct-push : (x : Leg) (l : List Leg) → distinct (l ++ x ∷ []) ≡ (not (has x l) && distinct l)
distinct-push x [] = refl
distinct-push x (y ∷ l) = grind (arith, distinct-push x l, has-append y l (x ∷ []), same-turned x y)

pub distinct-reverse : (l : List Leg) → distinct (reverse l) ≡ distinct l
distinct-reverse [] = refl
distinct-reverse (x ∷ l) =
    ap distinct (reverse-cons x l) ∙ distinct-push x (reverse l) ∙ grind (arith, distinct-reverse l, has-reverse x l)

is_order-reverse : (o l : List Leg) → is_order (reverse o) l ≡ is_order o l
is_order-reverse o l =
    let each : list_all (λ y. has y (reverse o)) l ≡ list_all (λ y. has y o) l = λ i. list_all (λ y. has-reverse y o i) l in
    is_order-orderly (reverse o) l
    ∙ grind (arith, list_all-reverse (λ x. has x l) o, distinct-reverse o, each)
    ∙ sym (is_order-orderly o l)

-- ---------------------------------------------------------------- the rows of a bus
down_in-kept : (rows : List Spot) (bus : ℕ) → map (λ r. leg_at r.bus r.message) (filter (λ r. eqb r.bus bus) rows) ≡ down_in rows bus
down_in-kept [] bus = refl
down_in-kept (r ∷ rows) bus = grind (arith, nat_tests, down_in-kept rows bus)

pub order_in-down : (rows : List Spot) (bus : ℕ) → order_in rows bus ≡ reverse (down_in rows bus)
order_in-down rows bus = map-reverse (λ r. leg_at r.bus r.message) (filter (λ r. eqb r.bus bus) rows) ∙ ap reverse (down_in-kept rows bus)

pub is_order-down : (rows : List Spot) (bus : ℕ) (l : List Leg) → is_order (down_in rows bus) l ≡ is_order (order_in rows bus) l
is_order-down rows bus l = sym (ap (λ o. is_order o l) (order_in-down rows bus) ∙ is_order-reverse (down_in rows bus) l)

-- what an order has
pub is_order-distinct : (rows : List Spot) (bus : ℕ) (l : List Leg) → is_order (order_in rows bus) l ≡ true → distinct (down_in rows bus) ≡ true
is_order-distinct rows bus l h = grind (arith, is_order-orderly (down_in rows bus) l, is_order-down rows bus l)

-- its legs are legs of the bus
pub is_order-part : (x : Leg) (o l : List Leg) → is_order o l ≡ true → has x o ≡ true → has x l ≡ true
is_order-part x [] l h m = grind arith
is_order-part x (y ∷ o) l h m = grind (arith, is_order-part x o (less y l), has-less y x l, same-tells x y)

-- ---------------------------------------------------------------- as a fact
pub is_empty-nil : (l : List Leg) → is_empty l ≡ true → l ≡ []
is_empty-nil [] h = refl
is_empty-nil (x ∷ l) h = absurd (true≢false (sym h))

pub Order-from_is_order : (o l : List Leg) → is_order o l ≡ true → Order o l
Order-from_is_order [] l h = is_empty-nil l h
Order-from_is_order (x ∷ o) l h = let both = and_parts (has x l) (is_order o (less x l)) h in (both.0, Order-from_is_order o (less x l) both.1)
