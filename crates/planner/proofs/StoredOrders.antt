-- The order of a bus, told from what the board stores.
use Rattle.std.proofs.Common.{◌≡◌, ℕ, true, ◌&&◌, eqb, List, [], ◌∷◌, map, reverse, is_some, sym, refl, ap, ◌∙◌, subst, inl, inr, arith}
use Rattle.std.specs.List.{list_any, filter}
use Rattle.std.proofs.lemmas.List.{reverse-reverse}
use Rattle.std.proofs.lemmas.Simd.{map-map}
use Rattle.std.proofs.lemmas.Bool.{and_parts, eqb-true, cases_Bool, cond-true, cond-false}
use Rattle.bus.specs.declared.message.Message.{Message}
use Rattle.search.proofs.RankedLegs.{in_turn-is}
use Rattle.search.specs.Net.{Leg, has}
use Rattle.search.specs.Stored as walk
use Rattle.search.specs.Stored.{in_turn, order_of, stored}
use Rattle.search.proofs.Legs.{same-turned, has-append}
use Rattle.boards.specs.Nets.{leg_at, net_legs}
use Rattle.boards.proofs.BusLegs.{meant, has-bus}
use Rattle.planner.specs.BusOrders.{leg_of_rank, are_legs, order_on}
use Rattle.planner.specs.Storage.{ranked_leg, ranked_of}
use Rattle.planner.specs.declared.ranked.Ranked.{Ranked}
use Rattle.planner.proofs.Reversed.{map-reverse}

-- ---------------------------------------------------------------- the ranked legs, the earliest first
pub in_turn-stored : (rs : List Ranked) → in_turn (ranked_of rs) ≡ map leg_of_rank rs
in_turn-stored rs =
    in_turn-is (ranked_of rs)
    ∙ ap (map (λ w. w.leg)) (sym (map-reverse ranked_leg (reverse rs)) ∙ ap (map ranked_leg) (reverse-reverse rs))
    ∙ map-map (λ w. w.leg) ranked_leg rs

-- a leg has a stored delay where it is one of them
stored-in_turn : (rs : List walk.Ranked) (x : Leg) → is_some (stored rs x) ≡ has x (in_turn rs)
stored-in_turn [] x = refl
stored-in_turn (r ∷ rs) x = grind (arith, stored-in_turn rs x, has-append x (in_turn rs) (r.leg ∷ []), same-turned x r.leg)

pub stored-has : (rs : List Ranked) (x : Leg) → is_some (stored (ranked_of rs) x) ≡ has x (map leg_of_rank rs)
stored-has rs x = stored-in_turn (ranked_of rs) x ∙ ap (has x) (in_turn-stored rs)

-- ---------------------------------------------------------------- the order of a bus
-- a ranked leg is on its own bus alone
leg_of_rank-own : (ms : List Message) (r : Ranked) (bus : ℕ) → has (leg_of_rank r) (net_legs ms r.bus) ≡ true →
    has (leg_of_rank r) (net_legs ms bus) ≡ eqb r.bus bus
leg_of_rank-own ms r bus h =
    elim (cases_Bool (eqb r.bus bus)) [
      | inl e ↦ subst (λ (k : ℕ). has (leg_of_rank r) (net_legs ms k) ≡ true) (eqb-true r.bus bus e) h ∙ sym e
      | inr e ↦ has-bus (leg_of_rank r) ms bus ∙ ap (λ t. t && list_any (meant bus r.message) ms) e ∙ sym e
    ]

pub order_on-kept : (ms : List Message) (rs : List Ranked) (bus : ℕ) → are_legs ms rs ≡ true →
    filter (λ x. has x (net_legs ms bus)) (map leg_of_rank rs) ≡ order_on rs bus
order_on-kept ms [] bus h = refl
order_on-kept ms (r ∷ rs) bus h =
    let both = and_parts (has (leg_of_rank r) (net_legs ms r.bus)) (are_legs ms rs) h in
    let rest = order_on-kept ms rs bus both.1 in
    let own = leg_of_rank-own ms r bus both.0 in
    elim (cases_Bool (eqb r.bus bus)) [
      | inl e ↦
          cond-true _ _ _ (own ∙ e)
          ∙ ap (λ o. leg_of_rank r ∷ o) rest
          ∙ ap (λ k. leg_at k r.message ∷ order_on rs bus) (eqb-true r.bus bus e)
          ∙ sym (cond-true _ _ _ e)
      | inr e ↦ cond-false _ _ _ (own ∙ e) ∙ rest ∙ sym (cond-false _ _ _ e)
    ]

pub order_of-stored : (ms : List Message) (rs : List Ranked) (bus : ℕ) → are_legs ms rs ≡ true → order_of (ranked_of rs) (net_legs ms bus) ≡ order_on rs bus
order_of-stored ms rs bus legs = ap (filter (λ x. has x (net_legs ms bus))) (in_turn-stored rs) ∙ order_on-kept ms rs bus legs
