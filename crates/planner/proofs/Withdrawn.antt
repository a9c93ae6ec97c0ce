-- One message less: the messages still rise and are on the board, and what has which number.
use Rattle.std.proofs.Common.{◌≡◌, ℕ, Bool, true, List, [], ◌∷◌, None, refl, ap, ◌∙◌, arith}
use Rattle.std.proofs.lemmas.Bool.Decides.{nat_tests}
use Rattle.std.specs.List.{list_all}
use Rattle.bus.specs.declared.message.Message.{Message}
use Rattle.boards.specs.Boards.{message_of, messages_from, rising_messages}
use Rattle.planner.specs.Messages.{withdrawn}
use Rattle.planner.proofs.Rising.{messages_from-lower}

module _ (n : ℕ) where
  messages_from-withdrawn : (k : ℕ) (ms : List Message) → messages_from k ms ≡ true → messages_from k (withdrawn n ms) ≡ true
  messages_from-withdrawn k [] h = refl
  messages_from-withdrawn k (x ∷ xs) h = grind (arith, nat_tests, messages_from-withdrawn x.number xs, messages_from-lower k x.number (withdrawn n xs))

  pub withdrawn-rises : (ms : List Message) → rising_messages ms ≡ true → rising_messages (withdrawn n ms) ≡ true
  withdrawn-rises ms h = messages_from-withdrawn 0 ms h

  pub list_all-withdrawn : (f : Message → Bool) (ms : List Message) → list_all f ms ≡ true → list_all f (withdrawn n ms) ≡ true
  list_all-withdrawn f [] h = refl
  list_all-withdrawn f (x ∷ xs) h = grind (arith, nat_tests, list_all-withdrawn f xs)

  pub every-after : (f : Message → Bool) (ms after : List Message) → after ≡ withdrawn n ms → list_all f ms ≡ true → list_all f after ≡ true
  every-after f ms after e h = ap (list_all f) e ∙ list_all-withdrawn f ms h

  pub message_of-withdrawn : (ms : List Message) → message_of (withdrawn n ms) n ≡ None
  message_of-withdrawn [] = refl
  message_of-withdrawn (x ∷ xs) = grind (arith, nat_tests, message_of-withdrawn xs)

  pub message_of-withdrawn_other : (k : ℕ) (ms : List Message) → (k ≡ n → ⊥) → message_of (withdrawn n ms) k ≡ message_of ms k
  message_of-withdrawn_other k [] other = refl
  message_of-withdrawn_other k (x ∷ xs) other = grind (arith, nat_tests, message_of-withdrawn_other k xs other)

  pub withdrawn-none : (ms : List Message) → message_of ms n ≡ None → withdrawn n ms ≡ ms
  withdrawn-none [] h = refl
  withdrawn-none (x ∷ xs) h = grind (arith, nat_tests, withdrawn-none xs)
