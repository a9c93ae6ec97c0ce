-- The table of messages, by rising number: with one more, and with one less.
use Rattle.std.specs.Prelude.{ℕ, suc, cond, not, List, [], ◌∷◌, ◌==◌, nat_lt}
use Rattle.std.specs.List.{filter}
use Rattle.bus.specs.declared.message.Message.{Message}

-- the messages with m at its place
abbrev pub entered : Message → List Message → List Message
entered m [] = m ∷ []
entered m (x ∷ xs) = cond (nat_lt m.number x.number) (m ∷ x ∷ xs) (x ∷ entered m xs)

-- the messages without that of the number
abbrev pub withdrawn : ℕ → List Message → List Message
withdrawn n ms = filter (λ m. not (m.number == n)) ms

-- how many messages stand before the first whose number is n or more: the place of n
abbrev pub place_of : List Message → ℕ → ℕ
place_of [] n = 0
place_of (x ∷ xs) n = cond (nat_lt x.number n) (suc (place_of xs n)) 0
