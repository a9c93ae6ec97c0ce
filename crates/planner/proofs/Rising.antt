-- Lists of messages that stand by rising number: there are few, a search by number may halve them, and each is found by its number.
use Rattle.std.proofs.Common.{◌≡◌, ℕ, zero, suc, ◌+◌, ◌<◌, ◌≤◌, true, eqb, ltb, List, [], ◌∷◌, length, get_or, refl, Some, None, ap, ◌∙◌, inl, inr, arith}
use Rattle.std.specs.List.Sorted.{IsNonDecreasingBy}
use Rattle.std.specs.List.{list_all}
use Rattle.std.proofs.lemmas.List.Folds.{list_all_at}
use Rattle.std.proofs.lemmas.Bool.{and_parts, ltb-true, eq-eqb, ne_eqb, cond-true, cond-false, true_from_ne_false, both_ways}
use Rattle.std.proofs.lemmas.Bool.Decides.{nat_tests}
use Rattle.bus.specs.declared.message.Message.{Message}
use Rattle.search.proofs.Lists.{Among, list_all-at}
use Rattle.boards.specs.Boards.{message_of, messages_from, rising_messages}

pub messages_from-lower : (n k : ℕ) (ms : List Message) → n ≤ k → messages_from k ms ≡ true → messages_from n ms ≡ true
messages_from-lower n k [] le h = refl
messages_from-lower n k (m ∷ ms) le h = grind (arith, nat_tests)

-- no message has a number that is not above the bound
pub message_of-below : (k n : ℕ) (ms : List Message) → n ≤ k → messages_from k ms ≡ true → message_of ms n ≡ None
message_of-below k n [] le h = refl
message_of-below k n (m ∷ ms) le h =
    let both = and_parts (ltb k m.number) (messages_from m.number ms) h in
    let above = ltb-true k m.number both.0 in
    cond-false _ _ _ (ne_eqb m.number n (λ e. omega arith)) ∙ message_of-below m.number n ms (omega arith) both.1

messages_from-few : (k : ℕ) (ms : List Message) → k ≤ 64 → messages_from k ms ≡ true → length ms + k ≤ 64
messages_from-few k [] le h = omega arith
messages_from-few k (m ∷ ms) le h =
    let both = and_parts (ltb k m.number) (messages_from m.number ms) h in
    let above = ltb-true k m.number both.0 in
    let rest = messages_from-few m.number ms (omega arith) both.1 in
    omega arith

-- numbers go from 1 to 64
pub rising_messages-few : (ms : List Message) → rising_messages ms ≡ true → length ms ≤ 64
rising_messages-few ms h = omega (arith, messages_from-few 0 ms (omega arith) h)

-- each number is above the bound
pub messages_from-above : (n k : ℕ) (ms : List Message) → n ≤ k → messages_from k ms ≡ true → list_all (λ m. ltb n m.number) ms ≡ true
messages_from-above n k [] le h = refl
messages_from-above n k (m ∷ ms) le h = grind (arith, nat_tests, messages_from-above n m.number ms)

messages_from-above_at : (k : ℕ) (ms : List Message) (i : ℕ) (d : Message) → messages_from k ms ≡ true → i < length ms → k < (get_or ms i d).number
messages_from-above_at k ms i d h within =
    ltb-true k (get_or ms i d).number
    (true_from_ne_false _ (λ e. both_ways _ (list_all_at (λ m. ltb k m.number) ms i d within e) (messages_from-above k k ms (omega arith) h)))

messages_from-by_number : (k : ℕ) (ms : List Message) → messages_from k ms ≡ true → IsNonDecreasingBy (λ m. m.number) ms
messages_from-by_number k [] h i j d le within = absurd (omega arith)
messages_from-by_number k (m ∷ ms) h zero zero d le within = omega arith
messages_from-by_number k (m ∷ ms) h zero (suc j) d le within =
    omega (arith, messages_from-above_at m.number ms j d (and_parts (ltb k m.number) (messages_from m.number ms) h).1 (omega arith))
messages_from-by_number k (m ∷ ms) h (suc i) zero d le within = absurd (omega arith)
messages_from-by_number k (m ∷ ms) h (suc i) (suc j) d le within =
    messages_from-by_number m.number ms (and_parts (ltb k m.number) (messages_from m.number ms) h).1 i j d (omega arith) (omega arith)

-- as a search in a sorted list asks
pub rising_messages-by_number : (ms : List Message) → rising_messages ms ≡ true → IsNonDecreasingBy (λ m. m.number) ms
rising_messages-by_number ms h = messages_from-by_number 0 ms h

-- ---------------------------------------------------------------- each of the messages is found by its number
message_of-among_from : (k : ℕ) (ms : List Message) (m : Message) → messages_from k ms ≡ true → Among m ms → message_of ms m.number ≡ Some m
message_of-among_from k [] m h a = absurd a
message_of-among_from k (x ∷ xs) m h a =
    let both = and_parts (ltb k x.number) (messages_from x.number xs) h in
    elim a [
      | inl e ↦ cond-true (eqb x.number m.number) _ _ (eq-eqb _ _ (ap (λ v. v.number) e)) ∙ ap Some e
      | inr rest ↦
          let above = ltb-true _ _ (list_all-at (λ v. ltb x.number v.number) m xs (messages_from-above x.number x.number xs (omega arith) both.1) rest) in
          cond-false (eqb x.number m.number) _ _ (ne_eqb _ _ (λ e. omega arith)) ∙ message_of-among_from x.number xs m both.1 rest
    ]

pub message_of-among : (ms : List Message) (m : Message) → rising_messages ms ≡ true → Among m ms → message_of ms m.number ≡ Some m
message_of-among ms m h a = message_of-among_from 0 ms m h a
