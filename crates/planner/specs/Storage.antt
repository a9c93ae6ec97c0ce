-- What the board stores of its walk, as the mathematics of the walk has it. No public contract cites this file.
use Rattle.std.specs.Prelude.{ℕ, Bool, cond, not, ◌&&◌, List, map, reverse, is_some, Option, nat_lt}
use Rattle.std.specs.List.{list_all, flat_map, filter}
use Rattle.bus.specs.Legs.{leg_on}
use Rattle.bus.specs.declared.message.Message.{Message}
use Rattle.search.specs.Net.{Leg, Pair}
use Rattle.search.specs.Stored as walk
use Rattle.search.specs.Walk.{partnered}
use Rattle.boards.specs.Nets.{leg_at, net_legs, pairs_of}
use Rattle.planner.specs.declared.ranked.Ranked.{Ranked}

abbrev pub ranked_leg : Ranked → walk.Ranked
ranked_leg r = record { leg = leg_at r.bus r.message; delay = r.delay }

-- the board has the earliest first, the mathematics the latest
abbrev pub ranked_of : List Ranked → List walk.Ranked
ranked_of rs = map ranked_leg (reverse rs)

-- the legs of a bus that are not ranked, by rising message number
abbrev pub open_legs : List Message → List Ranked → ℕ → List Leg
open_legs ms rs bus = filter (walk.unranked (ranked_of rs)) (net_legs ms bus)

-- the message has a leg on the bus that is not ranked
abbrev pub is_open : List Ranked → ℕ → Message → Bool
is_open rs bus m = is_some (leg_on m bus) && walk.unranked (ranked_of rs) (leg_at bus m.number)

-- The readiness of a leg is b: by the pairs of a list, as those of all messages, or of the leg's own message.
abbrev pub ready_is : Bool → List Ranked → List Pair → Leg → Bool
ready_is b rs prs x =
    let is_ready = list_all (partnered (walk.stored (ranked_of rs)) x) prs in
    cond b is_ready (not is_ready)

-- the legs of the messages with numbers above n
abbrev pub above : ℕ → List Leg → List Leg
above n l = filter (λ x. nat_lt n x.message) l

-- the first open leg above a message's number whose readiness is b
abbrev pub next_such : List Message → List Ranked → ℕ → ℕ → Bool → Option Leg
next_such ms rs bus after b = walk.first_by (ready_is b rs (flat_map pairs_of ms)) (above after (open_legs ms rs bus))
