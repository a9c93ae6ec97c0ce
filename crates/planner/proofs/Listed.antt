-- The message of an open leg: it is on the board, and its own pairs tell whether the leg is ready.
use Rattle.std.proofs.Common.{◌≡◌, ℕ, Bool, true, false, eqb, List, [], ◌∷◌, is_some, Some, None, Option, sym, ap, ◌∙◌, subst, inl, inr, arith}
use Rattle.std.specs.List.{list_all, filter}
use Rattle.std.proofs.lemmas.Bool.{cases_Bool, eqb-true, cond-true, cond-false, true≢false}
use Rattle.bus.specs.declared.message.Message.{Message}
use Rattle.search.specs.Net.{Leg, Pair, has, touches, Delays}
use Rattle.search.specs.Walk.{partnered, ready, candidates}
use Rattle.search.specs.Stored.{Ranked, behind, head_of, stored}
use Rattle.search.proofs.Legs.{has_kept}
use Rattle.boards.specs.Boards.{message_of, rising_messages}
use Rattle.boards.specs.Nets.{leg_at, net_legs, leg_from, pairs_of}
use Rattle.planner.specs.Stages.{layout, after_ranked}
use Rattle.planner.proofs.MessageLegs.{has-leg_from}
use Rattle.planner.proofs.OwnReady.{partnered-own}

pub message_there : (ms : List Message) → rising_messages ms ≡ true → (f : Leg → Bool) (bus n : ℕ) →
    has (leg_at bus n) (filter f (net_legs ms bus)) ≡ true → (o : Option Message) → o ≡ message_of ms n → o ≡ None → ⊥
message_there ms rises f bus n on o answer is =
    let none : has (leg_at bus n) (net_legs ms bus) ≡ false = has-leg_from ms bus n rises ∙ ap (λ m. is_some (leg_from bus m)) (sym answer ∙ is) in
    let z : ◌≡◌ {A = Bool} true false = grind (arith, none, on, has_kept (leg_at bus n) f (net_legs ms bus)) in
    true≢false z

message_of-number : (ms : List Message) (n : ℕ) (m : Message) → message_of ms n ≡ Some m → m.number ≡ n
message_of-number [] n m e = grind arith
message_of-number (y ∷ ms) n m e =
    elim (cases_Bool (eqb y.number n)) [
      | inl t ↦
          let here : Some y ≡ Some m = sym (cond-true _ (Some y) (message_of ms n) t) ∙ e in
          let is : y ≡ m = cc in
          ap (λ (v : Message). v.number) (sym is) ∙ eqb-true _ _ t
      | inr t ↦ message_of-number ms n m (sym (cond-false _ (Some y) (message_of ms n) t) ∙ e)
    ]

untouched : (p : Delays) (x : Leg) (pr : Pair) → touches x pr ≡ false → partnered p x pr ≡ true
untouched p x pr e = grind (arith, e)

-- the message that was looked for by the number n, and found
module _ (ms : List Message) (n : ℕ) (o : Option Message) (answer : o ≡ message_of ms n) (m : Message) (is : o ≡ Some m) where
  found : message_of ms n ≡ Some m
  found = sym answer ∙ is

  pub message_number : m.number ≡ n
  message_number = message_of-number ms n m found

  pub message_listed : message_of ms m.number ≡ Some m
  message_listed = subst (λ (k : ℕ). message_of ms k ≡ Some m) (sym message_number) found

  pub message_open : (bus : ℕ) (l : List Leg) → has (leg_at bus n) l ≡ true → has (leg_at bus m.number) l ≡ true
  message_open bus l = subst (λ (k : ℕ). has (leg_at bus k) l ≡ true) (sym message_number)

  module _ (count bus : ℕ) (rs : List Ranked) (l : List Leg) where
    -- what is tested after the message's leg
    pub message_next : (x : Option Leg) → x ≡ head_of (behind (leg_at bus m.number) (candidates (layout count ms) (stored rs) l)) →
        x ≡ head_of (behind (leg_at bus n) (candidates (layout count ms) (stored rs) l))
    message_next x e = e ∙ ap (λ (k : ℕ). head_of (behind (leg_at bus k) (candidates (layout count ms) (stored rs) l))) message_number

    is_ready : rising_messages ms ≡ true →
        list_all (partnered (stored rs) (leg_at bus m.number)) (pairs_of m) ≡ ready (layout count ms) (stored rs) (leg_at bus n)
    is_ready rises =
        sym (partnered-own (stored rs) bus ms rises m message_listed) ∙ ap (λ (k : ℕ). ready (layout count ms) (stored rs) (leg_at bus k)) message_number

    -- and where its ranking was taken back: none where it is ready
    pub none-after_ready : rising_messages ms ≡ true → true ≡ list_all (partnered (stored rs) (leg_at bus m.number)) (pairs_of m) →
        None ≡ after_ranked (layout count ms) rs l (leg_at bus n)
    none-after_ready rises e = sym (cond-true _ _ _ (sym (e ∙ is_ready rises)))

    pub next-after_unready : rising_messages ms ≡ true → false ≡ list_all (partnered (stored rs) (leg_at bus m.number)) (pairs_of m) →
        (x : Option Leg) → x ≡ head_of (behind (leg_at bus m.number) (candidates (layout count ms) (stored rs) l)) →
        x ≡ after_ranked (layout count ms) rs l (leg_at bus n)
    next-after_unready rises e x next = message_next x next ∙ sym (cond-false _ _ _ (sym (e ∙ is_ready rises)))
