-- From a board to the net that is planned.
use Rattle.std.specs.Prelude.{ℕ, zero, suc, Bool, List, [], ◌∷◌, map, Some, None, Option, ◌==◌}
use Rattle.std.specs.List.{flat_map, filter}
use Rattle.bus.specs.Legs.{leg_on, legs_on}
use Rattle.bus.specs.Numbered.{member}
use Rattle.bus.specs.declared.leg.Leg.{Leg as BusLeg}
use Rattle.bus.specs.declared.message.Message.{Message}
use Rattle.search.specs.Net.{Leg, Pair, Net, has}
use Rattle.boards.specs.Boards.{Board, bus_count, rule_at}

-- the leg of a message, by its number, on a bus
abbrev pub leg_at : ℕ → ℕ → Leg
leg_at bus number = record { bus = bus; message = number }

abbrev pub net_leg : ℕ → BusLeg → Leg
net_leg bus leg = leg_at bus leg.message.number

-- the legs of a bus, by rising message number
abbrev pub net_legs : List Message → ℕ → List Leg
net_legs ms bus = map (net_leg bus) (legs_on ms bus)

-- the leg that a message has on a bus, if there is the message
abbrev pub leg_from : ℕ → Option Message → Option BusLeg
leg_from bus None = None
leg_from bus (Some m) = leg_on m bus

-- n numbers from k up
abbrev pub numbers_from : ℕ → ℕ → List ℕ
numbers_from k zero = []
numbers_from k (suc n) = k ∷ numbers_from (suc k) n

-- 1 to n
abbrev pub bus_numbers : ℕ → List ℕ
bus_numbers n = numbers_from 1 n

abbrev pub source_leg : Message → Leg
source_leg m = leg_at m.source m.number

-- the message stays on one bus
abbrev pub is_local : Message → Bool
is_local m = m.destinations == 0

-- the destinations of a message, by rising bus number
abbrev pub destinations_of : Message → List ℕ
destinations_of m = filter (member m.destinations) (bus_numbers 8)

abbrev pub pair_to : Message → ℕ → Pair
pair_to m bus = record { source = source_leg m; destination = leg_at bus m.number; deadline = m.deadline }

abbrev pub pairs_of : Message → List Pair
pairs_of m = map (pair_to m) (destinations_of m)

-- by the rule of the leg's bus, below those legs of the list that are on that bus
abbrev pub delay_on : Board → Leg → List Leg → Option ℕ
delay_on b x above = rule_at b.rules x.bus (legs_on b.messages x.bus) x.message (λ n. has (leg_at x.bus n) above)

abbrev pub net_of : Board → Net
net_of b =
    record {
      buses = map (net_legs b.messages) (bus_numbers (bus_count b));
      delay = delay_on b;
      locals = map source_leg (filter is_local b.messages);
      pairs = flat_map pairs_of b.messages;
      gateway = b.gateway;
    }
