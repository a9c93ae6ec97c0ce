-- Of messages that rise, each is above the bound; and what is read at a place of a list is an element of it.
use Rattle.std.proofs.Common.{◌≡◌, ℕ, zero, suc, ◌<◌, true, ltb, List, [], ◌∷◌, length, get_or, sym, inl, inr, arith}
use Rattle.std.proofs.lemmas.Bool.{ltb-true}
use Rattle.bus.specs.declared.message.Message.{Message}
use Rattle.search.proofs.Lists.{Among, list_all-at}
use Rattle.boards.specs.Boards.{messages_from}
use Rattle.planner.proofs.Rising.{messages_from-above}

among-above : (k : ℕ) (ms : List Message) (m : Message) → messages_from k ms ≡ true → Among m ms → k < m.number
among-above k ms m h a = ltb-true k m.number (list_all-at (λ v. ltb k v.number) m ms (messages_from-above k k ms (omega arith) h) a)

-- what a loop reads is an element
pub read_among : {X : Type 0} (xs : List X) (i : ℕ) (x : X) → i < length xs → x ≡ get_or xs i x → Among x xs
read_among [] i x h e = absurd (omega arith)
read_among (y ∷ ys) zero x h e = inl (sym e)
read_among (y ∷ ys) (suc i) x h e = inr (read_among ys i x (omega arith) e)
