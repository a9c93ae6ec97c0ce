-- Ranked legs that are legs of the board: their numbers go from 1 to 64, and on a bus there are at most 64.
use Rattle.std.proofs.Common.{◌≡◌, ℕ, zero, suc, ◌<◌, ◌≤◌, Bool, true, false, not, leb, List, [], ◌∷◌, ◌++◌, map, length, get_or, sym, refl, ap, ◌∙◌, subst, inl, inr, arith}
use Rattle.std.specs.List.{list_all, filter}
use Rattle.std.proofs.lemmas.List.{length-map}
use Rattle.std.proofs.lemmas.Bool.{and_parts, and_from, not-true, or_cases, le-leb, true≢false, cases_Bool}
use Rattle.std.proofs.lemmas.List.Folds.{list_all-append}
use Rattle.bus.specs.Legs.{legs_on}
use Rattle.bus.specs.Range.{inside, numbers}
use Rattle.bus.specs.declared.leg.Leg.{Leg as BusLeg}
use Rattle.bus.specs.declared.message.Message.{Message}
use Rattle.search.specs.Net.{Leg, same, has, less}
use Rattle.search.specs.Stored.{distinct}
use Rattle.search.proofs.Legs.{same-equal, has-less, less-shorter}
use Rattle.boards.specs.Nets.{net_leg, net_legs}
use Rattle.planner.specs.BusOrders.{leg_of_rank, are_legs, order_on}
use Rattle.planner.specs.declared.ranked.Ranked.{Ranked}
use Rattle.planner.proofs.BoardRoom.{legs_on-few}
use Rattle.planner.proofs.MessageLegs.{has-leg_inside}
use Rattle.planner.proofs.StoredOrders.{order_on-kept}

-- ---------------------------------------------------------------- numbers
pub inside-ranked : (ms : List Message) (rs a : List Ranked) (r : Ranked) (b : List Ranked) → a ++ (r ∷ b) ≡ rs → are_legs ms rs ≡ true →
    inside numbers r.message ≡ true
inside-ranked ms rs a r b all legs =
    let split = list_all-append (λ (v : Ranked). has (leg_of_rank v) (net_legs ms v.bus)) a (r ∷ b) in
    let behind = (and_parts _ _ (sym split ∙ ap (are_legs ms) all ∙ legs)).1 in
    has-leg_inside ms r.bus r.message (and_parts _ (are_legs ms b) behind).0

number_of : (bus : ℕ) (x : Leg) (legs : List BusLeg) → has x (map (net_leg bus) legs) ≡ true → inside numbers x.message ≡ true
number_of bus x [] h = absurd (true≢false (sym h))
number_of bus x (y ∷ ys) h =
    elim (or_cases (same x (net_leg bus y)) (has x (map (net_leg bus) ys)) h) [
      | inl e ↦
          let n = y.message.number in
          subst (λ (l : Leg). inside numbers l.message ≡ true) (sym (same-equal x (net_leg bus y) e))
          (and_from (leb 1 n) (leb n 64) (le-leb 1 n y.message.number_range.0) (le-leb n 64 y.message.number_range.1))
      | inr m ↦ number_of bus x ys m
    ]

-- by its place
every-get_or : {X : Type 0} (f : X → Bool) (xs : List X) (i : ℕ) (d : X) → i < length xs → list_all f xs ≡ true → f (get_or xs i d) ≡ true
every-get_or f [] i d within h = absurd (omega arith)
every-get_or f (x ∷ xs) zero d within h = (and_parts (f x) (list_all f xs) h).0
every-get_or f (x ∷ xs) (suc i) d within h = every-get_or f xs i d (omega arith) (and_parts (f x) (list_all f xs) h).1

pub ranked-number : (ms : List Message) (rs : List Ranked) (i : ℕ) (d : Ranked) → i < length rs → are_legs ms rs ≡ true →
    inside numbers (get_or rs i d).message ≡ true
ranked-number ms rs i d within legs =
    let r = get_or rs i d in
    number_of r.bus (leg_of_rank r) (legs_on ms r.bus) (every-get_or (λ (v : Ranked). has (leg_of_rank v) (net_legs ms v.bus)) rs i d within legs)

-- ---------------------------------------------------------------- how many there are on a bus
filter-less : (x : Leg) (o l : List Leg) → has x o ≡ false → filter (λ y. has y l) o ≡ filter (λ y. has y (less x l)) o
filter-less x [] l h = refl
filter-less x (y ∷ o) l h = grind (arith, filter-less x o l, has-less x y l)

-- legs of a list, none of which stands twice, are no more than the list has
length-filter_has : (o l : List Leg) → distinct o ≡ true → length (filter (λ y. has y l) o) ≤ length l
length-filter_has [] l h = omega arith
length-filter_has (x ∷ o) l h =
    let both = and_parts (not (has x o)) (distinct o) h in
    elim (cases_Bool (has x l)) [
      | inl e ↦
          let others = filter-less x o l (not-true _ both.0) in
          let rest = length-filter_has o (less x l) both.1 in
          rw e (omega (arith, ap length others, less-shorter x l e))
      | inr e ↦ rw e (length-filter_has o l both.1)
    ]

pub order_on-few : (ms : List Message) (rs : List Ranked) (bus : ℕ) → length ms ≤ 64 → are_legs ms rs ≡ true → distinct (map leg_of_rank rs) ≡ true →
    length (order_on rs bus) ≤ 64
order_on-few ms rs bus few legs once =
    let at_most = length-filter_has (map leg_of_rank rs) (net_legs ms bus) once in
    omega (arith, at_most, ap length (order_on-kept ms rs bus legs), legs_on-few ms bus, length-map (legs_on ms bus) (net_leg bus))
