-- A leg is an end of its own message's pairs only, so a test of the pairs that have it as an end needs to look at these alone.
use Rattle.std.proofs.Common.{◌≡◌, ℕ, ◌≤◌, Bool, true, false, eqb, ltb, List, [], ◌∷◌, Some, refl, ap, ◌∙◌, inl, inr, arith}
use Rattle.std.specs.List.{list_all, flat_map}
use Rattle.std.proofs.lemmas.List.Folds.{list_all-append, list_all-map}
use Rattle.std.proofs.lemmas.Option.{none-some, same_Some}
use Rattle.std.proofs.lemmas.Bool.{and_parts, eqb-true, eqb-false, cases_Bool}
use Rattle.std.proofs.lemmas.Bool.Decides.{nat_tests}
use Rattle.std.proofs.Math.Bool.{and-true}
use Rattle.bus.specs.declared.message.Message.{Message}
use Rattle.search.specs.Net.{Leg, Pair, same, touches}
use Rattle.search.proofs.Lists.{list_all-by}
use Rattle.boards.specs.Boards.{message_of, messages_from, rising_messages}
use Rattle.boards.specs.Nets.{destinations_of, pair_to, pairs_of}

no_end : (x : Leg) (m : Message) (bus : ℕ) → (m.number ≡ x.message → ⊥) → touches x (pair_to m bus) ≡ false
unfolding same
no_end x m bus other = grind (arith, nat_tests)

module _ (x : Leg) (f : Pair → Bool) (passes : (pr : Pair) → touches x pr ≡ false → f pr ≡ true) where
  other-pairs : (m : Message) → (m.number ≡ x.message → ⊥) → list_all f (pairs_of m) ≡ true
  other-pairs m other =
      list_all-map f (pair_to m) (destinations_of m) ∙ list_all-by _ _ (λ bus among. passes (pair_to m bus) (no_end x m bus other))

  later_pairs : (n : ℕ) (ms : List Message) → x.message ≤ n → messages_from n ms ≡ true → list_all f (flat_map pairs_of ms) ≡ true
  later_pairs n [] le h = refl
  later_pairs n (m ∷ ms) le h =
      grind (arith, nat_tests, list_all-append f (pairs_of m) (flat_map pairs_of ms), other-pairs m, later_pairs m.number ms)

  own_from : (k : ℕ) (ms : List Message) → messages_from k ms ≡ true → (m : Message) → message_of ms x.message ≡ Some m →
      list_all f (flat_map pairs_of ms) ≡ list_all f (pairs_of m)
  own_from k [] h m e = absurd (none-some m e)
  own_from k (y ∷ ms) h m e =
      let order = and_parts (ltb k y.number) (messages_from y.number ms) h in
      let both = list_all-append f (pairs_of y) (flat_map pairs_of ms) in
      elim (cases_Bool (eqb y.number x.message)) [
        | inl t ↦
            let is = same_Some y m (rw t at e) in
            let number = eqb-true _ _ t in
            rw (both, later_pairs y.number ms (omega arith) order.1, and-true) (ap (λ v. list_all f (pairs_of v)) is)
        | inr t ↦ rw (both, other-pairs y (eqb-false _ _ t)) (own_from y.number ms order.1 m (rw t at e))
      ]

  -- f passes every pair that does not have x as an end
  pub own_pairs : (ms : List Message) → rising_messages ms ≡ true → (m : Message) → message_of ms x.message ≡ Some m →
      list_all f (flat_map pairs_of ms) ≡ list_all f (pairs_of m)
  own_pairs ms h m e = own_from 0 ms h m e
