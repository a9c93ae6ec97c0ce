-- What check reads and shows: orders made by hand, and the margin of each local message and each pair.
use Rattle.std.specs.Prelude.{◌≡◌, ℕ, ◌+◌, Bool, true, false, cond, not, ◌&&◌, List, [], ◌∷◌, map, reverse, length, pos, negsuc, ◌-ℤ◌, is_some, Some, None, Option, int_lt, nat_eq, nat_le, nat_lt}
use Rattle.std.specs.List.{list_all, flat_map, filter}
use Rattle.bus.specs.declared.message.Message.{Message}
use Rattle.search.specs.Net.{Leg, Net, has, less}
use Rattle.search.specs.Deadlines.{delays, met, Meets}
use Rattle.search.specs.Stored.{is_empty}
use Rattle.boards.specs.Boards.{Board, bus_count, Sound}
use Rattle.boards.specs.Nets.{leg_at, net_legs, bus_numbers, source_leg, is_local, destinations_of, net_of}
use Rattle.planner.specs.declared.rows.Spot.{Spot}
use Rattle.planner.specs.declared.rows.Margin.{Margin}

-- the order of a bus, from the lowest rank up, as rows from the highest rank down name it
abbrev pub order_in : List Spot → ℕ → List Leg
order_in rows bus = map (λ r. leg_at r.bus r.message) (reverse (filter (λ r. nat_eq r.bus bus) rows))

abbrev pub orders_in : ℕ → List Spot → List (List Leg)
orders_in count rows = map (order_in rows) (bus_numbers count)

-- the buses of the rows do not fall, and lie from low to high
abbrev pub by_bus : ℕ → ℕ → List Spot → Bool
by_bus low high [] = true
by_bus low high (r ∷ rows) = nat_le low r.bus && (nat_le r.bus high && by_bus r.bus high rows)

-- o names each leg of l exactly once, and no other leg
abbrev pub is_order : List Leg → List Leg → Bool
is_order [] l = is_empty l
is_order (x ∷ o) l = has x l && is_order o (less x l)

-- the rows name every leg of so many buses with these messages exactly once, by bus
abbrev pub named : ℕ → List Message → List Spot → Bool
named count ms rows = by_bus 1 count rows && list_all (λ bus. is_order (order_in rows bus) (net_legs ms bus)) (bus_numbers count)

-- the delay of a pair: source delay + gateway time + destination delay; over where one of them is
abbrev pub across : ℕ → Option ℕ → Option ℕ → Option ℕ
across gateway None b = None
across gateway (Some a) None = None
across gateway (Some a) (Some b) = Some (a + gateway + b)

abbrev pub margin_row : Message → ℕ → Option ℕ → Margin
margin_row m destination None = record { message = m.number; destination = destination; margin = negsuc 0; over = true }
margin_row m destination (Some d) =
    record { message = m.number; destination = destination; margin = pos m.deadline -ℤ pos d; over = false }

-- one row for a local message, else one for each destination
abbrev pub margins_of : Net → List (List Leg) → Message → List Margin
margins_of net os m =
    let q = delays net os in
    cond (is_local m) (margin_row m 0 (q (source_leg m)) ∷ [])
    (map (λ bus. margin_row m bus (across net.gateway (q (source_leg m)) (q (leg_at bus m.number)))) (destinations_of m))

abbrev pub margin_rows : Board → List (List Leg) → List Margin
margin_rows b os = flat_map (margins_of (net_of b) os) b.messages

-- every local message and every pair is met
abbrev pub all_met : Net → List (List Leg) → Bool
all_met net os = list_all (λ x. is_some (delays net os x)) net.locals && list_all (met net (delays net os)) net.pairs

-- ---------------------------------------------------------------- what the margins tell
-- a delay is late where it is over, or passes the deadline
abbrev pub late : ℕ → Option ℕ → Bool
late deadline None = true
late deadline (Some d) = nat_lt deadline d

abbrev pub below_zero : Margin → Bool
below_zero r = int_lt r.margin (pos 0)

-- a margin is below zero exactly where the delay is late
abbrev pub MarginsTell : Type 0
MarginsTell = (m : Message) (destination : ℕ) (d : Option ℕ) → below_zero (margin_row m destination d) ≡ late m.deadline d

-- the orders do not count for how many rows there are
abbrev pub MarginsAsMany : Type 0
MarginsAsMany = (b : Board) (os : List (List Leg)) → length (margin_rows b os) ≡ length (margin_rows b [])

-- all is met exactly where no margin is below zero
abbrev pub MetWhereNoneIsBelow : Type 0
MetWhereNoneIsBelow = (b : Board) → Sound b → (os : List (List Leg)) → list_all (λ r. not (below_zero r)) (margin_rows b os) ≡ all_met (net_of b) os

-- and exactly where the orders that the rows name meet the net
abbrev pub MetWhereOrdersMeet : Type 0
MetWhereOrdersMeet = (b : Board) (rows : List Spot) → named (bus_count b) b.messages rows ≡ true →
    let os = orders_in (bus_count b) rows in (all_met (net_of b) os ≡ true → Meets (net_of b) os) × (Meets (net_of b) os → all_met (net_of b) os ≡ true)
