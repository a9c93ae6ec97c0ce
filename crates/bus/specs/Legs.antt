-- The legs of messages: which leg a message has on a bus, and which of the legs of a bus is a message's.
use Rattle.std.specs.Prelude.{ℕ, Bool, true, false, cond, ◌&&◌, List, [], ◌∷◌, ◌++◌, Some, None, Option, ◌==◌, nat_lt}
use Rattle.std.specs.Option.{option_to_list}
use Rattle.bus.specs.Numbered.{member}
use Rattle.bus.specs.declared.leg.Leg.{Leg}
use Rattle.bus.specs.declared.message.Message.{Message}

-- the source leg on the source bus, a destination leg on each destination, and no leg elsewhere
abbrev pub leg_on : Message → ℕ → Option Leg
leg_on m bus =
    cond (bus == m.source) (Some (record { message = m; source = true }))
    (cond (member m.destinations bus) (Some (record { message = m; source = false })) None)

-- the legs that messages have on a bus, in the messages' order
abbrev pub legs_on : List Message → ℕ → List Leg
legs_on [] bus = []
legs_on (m ∷ ms) bus = option_to_list (leg_on m bus) ++ legs_on ms bus

-- the leg of the message with that number, among the legs of a bus
abbrev pub leg_of : List Leg → ℕ → Option Leg
leg_of [] n = None
leg_of (x ∷ xs) n = cond (x.message.number == n) (Some x) (leg_of xs n)

-- every number is larger than n, and each is larger than the one before it
abbrev pub rising_from : ℕ → List Leg → Bool
rising_from n [] = true
rising_from n (x ∷ xs) = nat_lt n x.message.number && rising_from x.message.number xs

-- the legs stand by rising message number; numbers begin at 1
abbrev pub rising : List Leg → Bool
rising xs = rising_from 0 xs
