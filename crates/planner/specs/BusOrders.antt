-- The ranked legs of a bus as the board stores them, and the row of a leg below those that are above it. No public contract cites this file.
use Rattle.std.specs.Prelude.{◌≡◌, ℕ, ◌+◌, Bool, cond, List, [], ◌∷◌, length, ◌==◌}
use Rattle.std.specs.Option.{unwrap_or}
use Rattle.bus.specs.Legs.{legs_on}
use Rattle.bus.specs.Numbered.{member}
use Rattle.bus.specs.Rules.{Meaning}
use Rattle.bus.specs.declared.message.Message.{Message}
use Rattle.std.specs.List.{list_all}
use Rattle.search.specs.Net.{Leg, has}
use Rattle.boards.specs.Boards.{rule_at}
use Rattle.boards.specs.Nets.{leg_at, net_legs}
use Rattle.planner.specs.declared.ranked.Ranked.{Ranked}
use Rattle.planner.specs.declared.rows.Row.{Row}
use Rattle.planner.specs.declared.seen_legs.Seen.{Seen}

-- the leg that is ranked
abbrev pub leg_of_rank : Ranked → Leg
leg_of_rank r = leg_at r.bus r.message

-- each ranked leg is a leg of its bus
abbrev pub are_legs : List Message → List Ranked → Bool
are_legs ms rs = list_all (λ r. has (leg_of_rank r) (net_legs ms r.bus)) rs

-- the ranked legs of a bus, from the lowest rank up
abbrev pub order_on : List Ranked → ℕ → List Leg
order_on [] bus = []
order_on (r ∷ rs) bus = cond (r.bus == bus) (leg_at bus r.message ∷ order_on rs bus) (order_on rs bus)

-- these legs of a bus were seen
pub record Sees (bus : ℕ) (o : List Leg) (s : Seen) : Type 0 where
  pub count : s.count ≡ length o
  pub above : (k : ℕ) → member s.above.bits k ≡ has (leg_at bus k) o

-- the row of a message on a bus, below so many legs, those of a set
abbrev pub row_below : List Meaning → List Message → ℕ → ℕ → ℕ → (ℕ → Bool) → Row
row_below rules ms bus n count above =
    record { bus = bus; rank = count + 1; message = n; delay = unwrap_or (rule_at rules bus (legs_on ms bus) n above) 0 }
