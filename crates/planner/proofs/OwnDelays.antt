-- A delay in whatever orders is at most the deadline of its message, and so at most ten seconds.
use Rattle.std.proofs.Common.{◌≡◌, ℕ, ◌≤◌, Bool, true, false, cond, eqb, List, [], ◌∷◌, Some, None, Option, sym, refl, ap, ◌∙◌, inl, inr, arith}
use Rattle.std.specs.List.{AllByRecursion}
use Rattle.std.proofs.lemmas.Bool.{cond-true, cond-false, cases_Bool}
use Rattle.bus.specs.Legs.{leg_on, leg_of, legs_on}
use Rattle.bus.specs.Numbered.{member}
use Rattle.bus.specs.declared.leg.Leg.{Leg as BusLeg}
use Rattle.bus.specs.declared.message.Message.{Message}
use Rattle.search.specs.Deadlines.{delay_in, delays}
use Rattle.search.specs.Net.{Leg, same, has}
use Rattle.search.proofs.Legs.{same-equal}
use Rattle.boards.specs.Boards.{Board, message_of, rising_messages, rule_at, Keeps}
use Rattle.boards.specs.Nets.{leg_at, leg_from, net_of}
use Rattle.boards.proofs.BusLegs.{legs_rise, legs_of_messages}
use Rattle.boards.proofs.RuleAt.{rule_at-keeps}
use Rattle.planner.specs.Spots.{AtMost}

-- ---------------------------------------------------------------- the rules
no_delay : {P : Type 0} (d : ℕ) → ◌≡◌ {A = Option ℕ} None (Some d) → P
no_delay d e = let z : ◌≡◌ {A = ℕ} 0 1 = cc in absurd (omega arith)

same-leg : {u v : BusLeg} → Some u ≡ Some v → u ≡ v
same-leg e = cc

none-leg : {P : Type 0} (u : BusLeg) → ◌≡◌ {A = Option BusLeg} None (Some u) → P
none-leg u e = let z : ◌≡◌ {A = ℕ} 0 1 = cc in absurd (omega arith)

-- ---------------------------------------------------------------- a delay is one by the rule
module _ (b : Board) (x : Leg) (d : ℕ) where
  abbrev ByRule : Type 0
  ByRule = (h : ℕ → Bool) × (rule_at b.rules x.bus (legs_on b.messages x.bus) x.message h ≡ Some d)

  in-by_rule : (o : List Leg) → delay_in (net_of b) o x ≡ Some d → ByRule
  in-by_rule [] e = no_delay d e
  in-by_rule (y ∷ o) e =
      elim (cases_Bool (same y x)) [
        | inl t ↦
            ((λ n. has (leg_at x.bus n) o), ap (λ v. (net_of b).delay v o) (sym (same-equal y x t)) ∙ sym (cond-true (same y x) _ _ t) ∙ e)
        | inr t ↦ in-by_rule o (sym (cond-false (same y x) _ _ t) ∙ e)
      ]

  by_rule : (os : List (List Leg)) → delays (net_of b) os x ≡ Some d → ByRule
  by_rule [] e = no_delay d e
  by_rule (o ∷ os) e =
      elim (cases_Bool (has x o)) [
        | inl t ↦ in-by_rule o (sym (cond-true (has x o) _ _ t) ∙ e)
        | inr t ↦ by_rule os (sym (cond-false (has x o) _ _ t) ∙ e)
      ]

-- a leg of a message has its deadline
own_leg : (m : Message) (bus : ℕ) (leg : BusLeg) → leg_on m bus ≡ Some leg → leg.message.deadline ≡ m.deadline
own_leg m bus leg e = go (eqb bus m.source) (member m.destinations bus) e
  where
    go : (s t : Bool) → cond s (Some (record { message = m; source = true })) (cond t (Some (record { message = m; source = false })) None) ≡ Some leg → leg.message.deadline ≡ m.deadline
    go true t e = ap (λ l. l.message.deadline) (sym (same-leg e))
    go false true e = ap (λ l. l.message.deadline) (sym (same-leg e))
    go false false e = none-leg leg e

module _ (b : Board) (keeps : AllByRecursion Keeps b.rules) (rise : rising_messages b.messages ≡ true) where
  -- where the deadline of the leg that a rule is shown is at most so long, its delay is too
  bounded-by : (limit bus n d : ℕ) (h : ℕ → Bool) (o : Option BusLeg) → ((leg : BusLeg) → o ≡ Some leg → leg.message.deadline ≤ limit) → leg_of (legs_on b.messages bus) n ≡ o →
      rule_at b.rules bus (legs_on b.messages bus) n h ≡ Some d → d ≤ limit
  bounded-by limit bus n d h None own at e =
      no_delay d (sym ((rule_at-keeps b.rules keeps bus).absent (legs_on b.messages bus) n h (legs_rise b.messages bus rise) at) ∙ e)
  bounded-by limit bus n d h (Some leg) own at e =
      omega (arith, own leg refl, (rule_at-keeps b.rules keeps bus).bounded (legs_on b.messages bus) n h leg d (legs_rise b.messages bus rise) at e)

  limited : (limit bus n : ℕ) (o : Option BusLeg) → ((leg : BusLeg) → o ≡ Some leg → leg.message.deadline ≤ limit) → leg_of (legs_on b.messages bus) n ≡ o →
      (os : List (List Leg)) → AtMost limit (delays (net_of b) os (leg_at bus n))
  limited limit bus n o own at os = go (delays (net_of b) os (leg_at bus n)) refl
    where
      go : (r : Option ℕ) → delays (net_of b) os (leg_at bus n) ≡ r → AtMost limit r
      go None e = tt
      go (Some d) e = let by = by_rule b (leg_at bus n) d os e in bounded-by limit bus n d by.0 o own at by.1

  -- whatever the message, a delay is at most ten seconds
  pub delay_small : (os : List (List Leg)) (bus n : ℕ) → AtMost 10000000000 (delays (net_of b) os (leg_at bus n))
  delay_small os bus n =
      limited 10000000000 bus n (leg_of (legs_on b.messages bus) n) (λ leg e. omega (arith, leg.message.deadline_range.1, leg.message.period_range.1)) refl os

  -- the leg that a rule is shown is the message's
  pub own_delay : (m : Message) → message_of b.messages m.number ≡ Some m → (os : List (List Leg)) (bus : ℕ) → AtMost m.deadline (delays (net_of b) os (leg_at bus m.number))
  own_delay m here os bus =
      limited m.deadline bus m.number (leg_on m bus) (λ leg e. omega (arith, own_leg m bus leg e)) (legs_of_messages b.messages bus m.number rise ∙ ap (leg_from bus) here) os
