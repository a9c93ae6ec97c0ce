-- The test of one leg, by its own message's pairs. No public contract cites this file.
use Rattle.std.specs.Prelude.{ℕ, Bool, false, cond, not, ◌||◌, List, Option, ◌==◌}
use Rattle.bus.specs.Legs.{legs_on}
use Rattle.bus.specs.Numbered.{member}
use Rattle.bus.specs.Rules.{Meaning}
use Rattle.bus.specs.declared.message.Message.{Message}
use Rattle.search.specs.Net.{Leg, Net, Delays}
use Rattle.search.specs.Walk.{or_else, passes}
use Rattle.boards.specs.Boards.{rule_at}
use Rattle.boards.specs.Nets.{leg_at, pair_to}

-- the bus of the other leg, in the pair with a destination that the message's leg on `bus` is an end of
abbrev pub partner_bus : Message → ℕ → ℕ → ℕ
partner_bus m bus destination = cond (bus == m.source) destination m.source

-- the delay that counts for a leg while its partner is tested: its own where it is ranked, else that which it gets with nothing above it
abbrev pub least_of : List Meaning → List Message → Delays → Leg → Option ℕ
least_of rules ms p y = or_else (p y) (rule_at rules y.bus (legs_on ms y.bus) y.message (λ _. false))

-- the message's leg on `bus` at the delay d passes the pair with this destination, if there is one
abbrev pub passes_to : Net → Delays → Message → ℕ → ℕ → ℕ → Bool
passes_to net p m bus d destination =
    not (member m.destinations destination) || passes net p (leg_at bus m.number) d (pair_to m destination)
