-- The place of a number in a list of messages that rise: what stands there, and the list with one more and one less there.
use Rattle.std.proofs.Common.{◌≡◌, ℕ, ◌<◌, ◌≤◌, Bool, true, false, cond, List, [], ◌∷◌, length, get_or, nat_lt, ◌==◌, is_some, Option, None, Some, Bor, sym, refl, ap, subst, ◌∙◌, arith}
use Rattle.std.specs.List.{insert, remove}
use Rattle.std.specs.Option.{MatchOption, IfSome}
use Rattle.std.proofs.lemmas.Bool.{cond-true, both_ways, ltb-true, ltb-false, eq-eqb, eqb-true}
use Rattle.std.proofs.lemmas.Bool.Decides.{nat_tests}
use Rattle.bus.specs.declared.message.Message.{Message}
use Rattle.boards.specs.Boards.{message_of, messages_from, rising_messages}
use Rattle.planner.specs.Messages.{entered, withdrawn, place_of}
use Rattle.planner.proofs.Entered.{entered-room}
use Rattle.planner.proofs.Rising.{message_of-below}
use Rattle.planner.proofs.Withdrawn.{withdrawn-none}

pub place_of-within : (ms : List Message) (n : ℕ) → place_of ms n ≤ length ms
place_of-within [] n = omega arith
place_of-within (x ∷ xs) n = grind (arith, nat_tests, place_of-within xs n)

-- the message belongs at the place of its number
entered-inserted_at : (m : Message) (ms : List Message) → message_of ms m.number ≡ None → insert ms (place_of ms m.number) m ≡ entered m ms
entered-inserted_at m [] free = refl
entered-inserted_at m (x ∷ xs) free = grind (arith, nat_tests, entered-inserted_at m xs)

pub inserted_entered : (m : Message) (ms after : List Message) (at : ℕ) (done : Bool) → at ≡ place_of ms m.number → message_of ms m.number ≡ None →
    after ≡ cond done (insert ms at m) ms → done ≡ true → after ≡ entered m ms
inserted_entered m ms after at done is free after_is yes-done = after_is ∙ cond-true done _ _ yes-done ∙ ap (λ i. insert ms i m) is ∙ entered-inserted_at m ms free

pub entered-inserted : (m : Message) (ms after : List Message) (at : ℕ) (done : Bool) → rising_messages ms ≡ true → message_of ms m.number ≡ None →
    at ≡ place_of ms m.number → (length ms < 64 → done ≡ true) → after ≡ cond done (insert ms at m) ms → after ≡ entered m ms
entered-inserted m ms after at done rises free is room after_is =
    after_is ∙ cond-true done _ _ (room (entered-room m ms rises free)) ∙ ap (λ i. insert ms i m) is ∙ entered-inserted_at m ms free

module _ (n : ℕ) (m : Message) where
  removed_from : (k : ℕ) (ms : List Message) → messages_from k ms ≡ true → place_of ms n < length ms → m ≡ get_or ms (place_of ms n) m → m.number ≡ n →
      withdrawn n ms ≡ remove ms (place_of ms n)
  removed_from k [] h within read here = absurd (omega arith)
  removed_from k (x ∷ xs) h within read here = grind (arith, nat_tests, removed_from x.number xs, withdrawn-none n xs, message_of-below x.number n xs)

  none_from : (k : ℕ) (ms : List Message) → messages_from k ms ≡ true → m ≡ get_or ms (place_of ms n) m → (m.number ≡ n → ⊥) → message_of ms n ≡ None
  none_from k [] h read other = refl
  none_from k (x ∷ xs) h read other = grind (arith, nat_tests, none_from x.number xs, message_of-below x.number n xs)

-- where all numbers are smaller
none-past : (n : ℕ) (ms : List Message) → length ms ≤ place_of ms n → message_of ms n ≡ None
none-past n [] h = refl
none-past n (x ∷ xs) h = grind (arith, nat_tests, none-past n xs)

module _ (n : ℕ) (ms : List Message) (rises : rising_messages ms ≡ true) (at : ℕ) (is : at ≡ place_of ms n) where
  -- the number's message stands at its place
  pub removed_withdrawn : (m : Message) (after : List Message) → at < length ms → m ≡ get_or ms at m → m.number ≡ n → after ≡ remove ms at → after ≡ withdrawn n ms
  removed_withdrawn m after within read here after_is =
      after_is ∙ ap (remove ms) is ∙ sym (removed_from n m 0 ms rises (rw is at within) (rw is at read) here)

  -- another stands there, or none: the number has no message
  pub withdrawn-other : (m : Message) → m ≡ get_or ms at m → (m.number ≡ n → ⊥) → ms ≡ withdrawn n ms
  withdrawn-other m read other = sym (withdrawn-none n ms (none_from n m 0 ms rises (rw is at read) other))

  pub withdrawn-past : length ms ≤ at → ms ≡ withdrawn n ms
  withdrawn-past past = sym (withdrawn-none n ms (none-past n ms (rw is at past)))

  -- what the code reads there, and how it tests its number
  module _ (read : List Message) (same : read ≡ ms) (o : Option (Bor Message)) (looked : (is_some o ≡ nat_lt at (length read)) × IfSome o (λ x. x.now ≡ get_or read at x.now)) (b : Bool) (Q : Bor Message → Type 0) (tested : MatchOption o (b ≡ false) Q) (says : (x : Bor Message) → Q x → b ≡ (x.now.number == n)) where
    within : is_some o ≡ nat_lt at (length ms)
    within = looked.0 ∙ ap (λ l. nat_lt at (length l)) same

    stands : IfSome o (λ x. x.now ≡ get_or ms at x.now)
    stands = subst (λ l. IfSome o (λ x. x.now ≡ get_or l at x.now)) same looked.1

    there : (p : Option (Bor Message)) → is_some p ≡ nat_lt at (length ms) → IfSome p (λ x. x.now ≡ get_or ms at x.now) → MatchOption p (b ≡ false) Q →
        b ≡ true → (after : List Message) → after ≡ remove ms at → after ≡ withdrawn n ms
    there None w r k e after after_is = absurd (both_ways b k e)
    there (Some x) w r k e after after_is =
        removed_withdrawn x.now after (ltb-true at (length ms) (sym w)) r (eqb-true x.now.number n (sym (says x k) ∙ e)) after_is

    not_there : (p : Option (Bor Message)) → is_some p ≡ nat_lt at (length ms) → IfSome p (λ x. x.now ≡ get_or ms at x.now) → MatchOption p (b ≡ false) Q →
        b ≡ false → ms ≡ withdrawn n ms
    not_there None w r k e = withdrawn-past (ltb-false at (length ms) (sym w))
    not_there (Some x) w r k e = withdrawn-other x.now r (λ i. both_ways b e (says x k ∙ eq-eqb x.now.number n i))

    pub withdrawn-where_it_stands : b ≡ true → (after : List Message) → after ≡ remove ms at → after ≡ withdrawn n ms
    withdrawn-where_it_stands e after after_is = there o within stands tested e after after_is

    pub withdrawn-where_it_does_not_stand : b ≡ false → ms ≡ withdrawn n ms
    withdrawn-where_it_does_not_stand e = not_there o within stands tested e
