-- The orders that rows name are orders of the buses, so that all is met exactly where they meet the net.
use Rattle.std.proofs.Common.{◌≡◌, ℕ, true, List, [], ◌∷◌, map}
use Rattle.std.proofs.lemmas.Bool.{and_parts, and_from}
use Rattle.std.specs.List.{list_all}
use Rattle.bus.specs.declared.message.Message.{Message}
use Rattle.search.specs.Deadlines.{Orders}
use Rattle.boards.specs.Boards.{bus_count}
use Rattle.boards.specs.Nets.{net_legs, bus_numbers}
use Rattle.planner.specs.Checks.{order_in, is_order, by_bus, MetWhereOrdersMeet}
use Rattle.planner.specs.declared.rows.Spot.{Spot}
use Rattle.planner.proofs.OrderTests.{Order-from_is_order}

Orders-from_named : (ms : List Message) (rows : List Spot) (ks : List ℕ) → list_all (λ k. is_order (order_in rows k) (net_legs ms k)) ks ≡ true →
    Orders (map (order_in rows) ks) (map (net_legs ms) ks)
Orders-from_named ms rows [] h = tt
Orders-from_named ms rows (k ∷ ks) h =
    let both = and_parts (is_order (order_in rows k) (net_legs ms k)) _ h in
    (Order-from_is_order (order_in rows k) (net_legs ms k) both.0, Orders-from_named ms rows ks both.1)

pub met-where_orders_meet : MetWhereOrdersMeet
met-where_orders_meet b rows all =
    let orders = Orders-from_named b.messages rows (bus_numbers (bus_count b)) (and_parts (by_bus 1 (bus_count b) rows) _ all).1 in
    ((λ h. let both = and_parts _ _ h in record { orders = orders; locals = both.0; pairs = both.1 }), (λ m. and_from _ _ m.locals m.pairs))
