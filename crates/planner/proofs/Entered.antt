-- One message more: the messages still rise and are on the board, there was room for it, and what has which number.
use Rattle.std.proofs.Common.{◌≡◌, ℕ, ◌+◌, ◌<◌, Bool, true, List, [], ◌∷◌, length, Some, None, refl, ap, ◌∙◌, arith}
use Rattle.std.proofs.lemmas.Bool.Decides.{nat_tests}
use Rattle.std.specs.List.{list_all}
use Rattle.bus.specs.declared.message.Message.{Message}
use Rattle.boards.specs.Boards.{message_of, messages_from, rising_messages}
use Rattle.planner.specs.Messages.{entered}
use Rattle.planner.proofs.Rising.{rising_messages-few}

module _ (m : Message) where
  messages_from-entered : (k : ℕ) (ms : List Message) → k < m.number → messages_from k ms ≡ true → message_of ms m.number ≡ None →
      messages_from k (entered m ms) ≡ true
  messages_from-entered k [] low h free = grind (arith, nat_tests)
  messages_from-entered k (x ∷ xs) low h free = grind (arith, nat_tests, messages_from-entered x.number xs)

  length-entered : (ms : List Message) → length (entered m ms) ≡ length ms + 1
  length-entered [] = refl
  length-entered (x ∷ xs) = grind (arith, nat_tests, length-entered xs)

  pub list_all-entered : (f : Message → Bool) (ms : List Message) → f m ≡ true → list_all f ms ≡ true → list_all f (entered m ms) ≡ true
  list_all-entered f [] here h = grind (arith, nat_tests)
  list_all-entered f (x ∷ xs) here h = grind (arith, nat_tests, list_all-entered f xs)

  pub every-after : (f : Message → Bool) (ms after : List Message) → after ≡ entered m ms → f m ≡ true → list_all f ms ≡ true → list_all f after ≡ true
  every-after f ms after e here h = ap (list_all f) e ∙ list_all-entered f ms here h

  pub message_of-entered : (ms : List Message) → message_of ms m.number ≡ None → message_of (entered m ms) m.number ≡ Some m
  message_of-entered [] free = grind (arith, nat_tests)
  message_of-entered (x ∷ xs) free = grind (arith, nat_tests, message_of-entered xs)

  pub message_of-entered_other : (k : ℕ) (ms : List Message) → (k ≡ m.number → ⊥) → message_of (entered m ms) k ≡ message_of ms k
  message_of-entered_other k [] other = grind (arith, nat_tests)
  message_of-entered_other k (x ∷ xs) other = grind (arith, nat_tests, message_of-entered_other k xs)

  pub entered-rises : (ms : List Message) → rising_messages ms ≡ true → message_of ms m.number ≡ None → rising_messages (entered m ms) ≡ true
  entered-rises ms h free = messages_from-entered 0 ms (omega arith) h free

  -- a free number leaves room
  pub entered-room : (ms : List Message) → rising_messages ms ≡ true → message_of ms m.number ≡ None → length ms < 64
  entered-room ms h free = omega (arith, length-entered ms, rising_messages-few (entered m ms) (entered-rises ms h free))
