-- What the ranked legs alone say of a bus: which of its legs are not ranked, and the order of those that are.
use Rattle.std.proofs.Common.{◌≡◌, true, false, List, [], ◌∷◌, ◌++◌, map, reverse, None, refl, ◌∙◌, arith}
use mathlib.Core.List.{map-append, reverse-cons}
use Rattle.std.specs.List.{filter}
use Rattle.std.proofs.lemmas.List.Elements.{filter-append}
use Rattle.std.proofs.lemmas.List.{append-nil}
use Rattle.std.proofs.lemmas.Bool.{or_left, or_right}
use Rattle.search.specs.Net.{Leg, same, has, has_any, less}
use Rattle.search.specs.Stored.{Ranked, stored, unranked, or_next, first_open, in_turn, order_of}
use Rattle.search.proofs.Legs.{same-itself}

-- ---------------------------------------------------------------- the unranked legs
-- once a leg is ranked
pub unranked-less : (r : Ranked) (rs : List Ranked) (l : List Leg) → filter (unranked (r ∷ rs)) l ≡ less r.leg (filter (unranked rs) l)
unranked-less r rs [] = refl
unranked-less r rs (y ∷ l) = grind (arith, unranked-less r rs l)

pub unranked-all : (rs : List Ranked) (l : List Leg) → ((y : Leg) → has y l ≡ true → stored rs y ≡ None) → filter (unranked rs) l ≡ l
unranked-all rs [] h = refl
unranked-all rs (y ∷ l) h =
    let rest = unranked-all rs l (λ z m. h z (or_right (same z y) (has z l) m)) in
    let this = h y (or_left (same y y) (has y l) (same-itself y)) in
    grind (arith, rest, this)

pub open-append : (rs : List Ranked) (h k : List (List Leg)) → first_open rs (h ++ k) ≡ or_next (first_open rs h) (first_open rs k)
open-append rs [] k = refl
open-append rs (l ∷ h) k = grind (arith, open-append rs h k)

-- a bus that is full stays so
pub full_still : (r : Ranked) (rs : List Ranked) (ls : List (List Leg)) → first_open rs ls ≡ [] → first_open (r ∷ rs) ls ≡ []
full_still r rs [] e = refl
full_still r rs (l ∷ ls) e = grind (arith, full_still r rs ls, unranked-less r rs l)

-- ---------------------------------------------------------------- the ranked legs of a bus
-- a leg more, on this bus or on another
pub order-more : (r : Ranked) (rs : List Ranked) (l : List Leg) → has r.leg l ≡ true → order_of (r ∷ rs) l ≡ order_of rs l ++ r.leg ∷ []
order-more r rs l on = grind (arith, filter-append (λ x. has x l) (in_turn rs) (r.leg ∷ []))

order_same : (r : Ranked) (rs : List Ranked) (l : List Leg) → has r.leg l ≡ false → order_of (r ∷ rs) l ≡ order_of rs l
order_same r rs l off = grind (arith, filter-append (λ x. has x l) (in_turn rs) (r.leg ∷ []), append-nil (order_of rs l))

pub orders-same : (r : Ranked) (rs : List Ranked) (ls : List (List Leg)) → has_any r.leg ls ≡ false →
    map (order_of (r ∷ rs)) ls ≡ map (order_of rs) ls
orders-same r rs [] off = refl
orders-same r rs (l ∷ ls) off = grind (arith, orders-same r rs ls, order_same r rs l)

pub order-none : (rs : List Ranked) (l : List Leg) → ((y : Leg) → has y l ≡ true → stored rs y ≡ None) → order_of rs l ≡ []
order-none [] l h = refl
order-none (r ∷ rs) l h =
    let off : has r.leg l ≡ false = grind (arith, h r.leg, same-itself r.leg) in
    order_same r rs l off ∙ order-none rs l (λ y m. grind (arith, h y m))

-- for a program that stores the earliest first
pub in_turn-is : (rs : List Ranked) → in_turn rs ≡ map (λ r. r.leg) (reverse rs)
in_turn-is [] = refl
in_turn-is (r ∷ rs) = rw (in_turn-is rs, reverse-cons, map-append)
