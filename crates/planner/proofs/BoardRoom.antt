-- A board has at most 512 legs, and fewer of them are ranked while one is open.
use Rattle.std.proofs.Common.{◌≡◌, ℕ, zero, suc, ◌*◌, ◌<◌, ◌≤◌, true, List, [], ◌∷◌, map, length, Some, None, Option, arith}
use Rattle.std.specs.Option.{option_to_list}
use Rattle.std.proofs.lemmas.List.{length-append, length-map}
use Rattle.bus.specs.Legs.{leg_on, legs_on}
use Rattle.bus.specs.declared.leg.Leg.{Leg as BusLeg}
use Rattle.bus.specs.declared.message.Message.{Message}
use Rattle.search.specs.Net.{Leg, has}
use Rattle.search.specs.Stored.{place_of, placed, leg_count}
use Rattle.search.proofs.Ranks.{ranked-fewer}
use Rattle.boards.specs.Boards.{rising_messages}
use Rattle.boards.specs.Nets.{net_leg, net_legs, numbers_from}
use Rattle.planner.specs.Storage.{ranked_of}
use Rattle.planner.specs.Stages.{layout}
use Rattle.planner.specs.declared.ranked.Ranked.{Ranked}
use Rattle.planner.proofs.Rising.{rising_messages-few}
use Rattle.planner.proofs.TakenBack.{length-ranked_of}

at_most_one : (o : Option BusLeg) → length (option_to_list o) ≤ 1
at_most_one None = omega arith
at_most_one (Some x) = omega arith

-- a message has at most one leg on a bus
pub legs_on-few : (ms : List Message) (bus : ℕ) → length (legs_on ms bus) ≤ length ms
legs_on-few [] bus = omega arith
legs_on-few (m ∷ ms) bus =
    omega (arith, length-append (option_to_list (leg_on m bus)) (legs_on ms bus), at_most_one (leg_on m bus), legs_on-few ms bus)

module _ (ms : List Message) (rises : rising_messages ms ≡ true) where
  legs_on-buses : (k n : ℕ) → leg_count (map (net_legs ms) (numbers_from k n)) ≤ 64 * n
  legs_on-buses k zero = omega arith
  legs_on-buses k (suc n) =
      omega (arith, legs_on-buses (suc k) n, length-map (legs_on ms k) (net_leg k), legs_on-few ms k, rising_messages-few ms rises)

  pub room_for_one : (count : ℕ) (rs : List Ranked) → count ≤ 8 → placed (layout count ms) (ranked_of rs) ≡ true → (x : Leg) →
      has x (place_of (layout count ms) (ranked_of rs)).open' ≡ true → length rs < 512
  room_for_one count rs few k x on =
      omega (arith, ranked-fewer (layout count ms) (ranked_of rs) k x on, legs_on-buses 1 count, length-ranked_of rs)
