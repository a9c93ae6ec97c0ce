-- The net of a board and its layout come to the same but for the test of a leg, and that test by what a program has: the delays stored, and
-- the set of the other open legs of the bus.
use Rattle.std.proofs.Common.{◌≡◌, ℕ, Bool, true, List, map, length, Some, Option, sym, refl, ap, ◌∙◌}
use Rattle.bus.specs.Legs.{legs_on}
use Rattle.bus.specs.Rules.{Meaning}
use Rattle.bus.specs.declared.message.Message.{Message}
use Rattle.search.specs.Net.{Leg, has, less, Delays}
use Rattle.search.specs.Walk.{fit, fit_at}
use Rattle.search.specs.Stored as walk
use Rattle.search.proofs.Alike.{same-open, same-placed_at, same-try, same_start}
use Rattle.search.proofs.Place.{place-delays}
use Rattle.boards.specs.Boards.{board_of, rule_at}
use Rattle.boards.specs.Nets.{leg_at, net_legs, bus_numbers, net_of}
use Rattle.planner.specs.Networks.{rules_of, net_on}
use Rattle.planner.specs.Storage.{ranked_of, open_legs}
use Rattle.planner.specs.Stages.{layout, spot_leg, stands}
use Rattle.planner.specs.declared.network.Network.{Network}
use Rattle.planner.specs.declared.ranked.Ranked.{Ranked}
use Rattle.planner.specs.declared.rows.Spot.{Spot}
use Rattle.planner.specs.declared.stage.Stage.TheVariants.{Testing}
use Rattle.planner.proofs.BusRules.{length-rules_of}
use Rattle.planner.proofs.NextTests.{open_on-board, open-beside}
use Rattle.planner.proofs.Stands.{stands-open, stands-placed}

module _ (rules : List Meaning) (gateway : ℕ) (ms : List Message) (count : ℕ) (e : length rules ≡ count) where
  buses-alike : (net_of (board_of rules gateway ms)).buses ≡ (layout count ms).buses
  buses-alike = ap (λ (n : ℕ). map (net_legs ms) (bus_numbers n)) e

  pub placed_at-board : (s : walk.Stage) → walk.placed_at (net_of (board_of rules gateway ms)) s ≡ walk.placed_at (layout count ms) s
  placed_at-board s = same-placed_at (net_of (board_of rules gateway ms)) (layout count ms) buses-alike refl s

  pub start_stage-board : walk.start_stage (net_of (board_of rules gateway ms)) ≡ walk.start_stage (layout count ms)
  start_stage-board = same_start (net_of (board_of rules gateway ms)) (layout count ms) buses-alike refl

  try_at-board : (rs : List walk.Ranked) (x : Leg) (o : Option ℕ) →
      walk.try_at (net_of (board_of rules gateway ms)) rs x o ≡ walk.try_at (layout count ms) rs x o
  try_at-board rs x o = same-try (net_of (board_of rules gateway ms)) (layout count ms) buses-alike refl rs x o

  open_at-board : (rs : List Ranked) (s : Spot) → stands count ms rs (Testing s) ≡ true →
      (walk.place_of (net_of (board_of rules gateway ms)) (ranked_of rs)).open' ≡ open_legs ms rs s.bus
  open_at-board rs s h =
      let k = stands-placed count ms rs s h in
      same-open (net_of (board_of rules gateway ms)) (layout count ms) buses-alike refl (ranked_of rs)
      ∙ open_on-board count ms (ranked_of rs) k ∙ open-beside count ms (ranked_of rs) k (spot_leg s) (stands-open count ms rs s h)

-- a network as the program has it
module _ {S : Type 0} (f : S → Meaning) (n : Network S) where
  -- the test of x, by the ranked legs as they were seen, has come to o; w is what is reached
  pub try_once-from_fit : (rs seen : List Ranked) (same : seen ≡ rs) (x : Leg) (o : Option ℕ) →
      o ≡ fit (net_on f n) (walk.place_of (net_on f n) (ranked_of seen)).delays (walk.place_of (net_on f n) (ranked_of seen)).open' x →
      (w : Option walk.Stage) → w ≡ Some (walk.try_at (layout n.table.buses n.table.messages.items) (ranked_of rs) x o) →
      w ≡ Some (walk.try_once (net_on f n) (walk.testing (ranked_of rs) x))
  try_once-from_fit rs seen same x o tested w is =
      let net = net_on f n in
      is
      ∙ ap (λ (v : walk.Stage). Some v) (sym (try_at-board (rules_of f n) n.gateway n.table.messages.items n.table.buses (length-rules_of f n) (ranked_of rs) x o))
      ∙ ap (λ (d : Option ℕ). Some (walk.try_at net (ranked_of rs) x d))
      (tested ∙ ap (λ (v : List Ranked). fit net (walk.place_of net (ranked_of v)).delays (walk.place_of net (ranked_of v)).open' x) same)

  -- above holds of the other open legs of the bus; k is the message's number, and o what the test has come to
  pub fit-board : (rs : List Ranked) (s : Spot) → stands n.table.buses n.table.messages.items rs (Testing s) ≡ true → (above : ℕ → Bool) →
      ((k : ℕ) → above k ≡ has (leg_at s.bus k) (less (spot_leg s) (open_legs n.table.messages.items rs s.bus))) →
      (k : ℕ) → k ≡ s.message → (o : Option ℕ) →
      o ≡ fit_at (net_on f n) (walk.stored (ranked_of rs)) (leg_at s.bus k) (rule_at (rules_of f n) s.bus (legs_on n.table.messages.items s.bus) k above) →
      o ≡ fit (net_on f n) (walk.place_of (net_on f n) (ranked_of rs)).delays (walk.place_of (net_on f n) (ranked_of rs)).open' (spot_leg s)
  fit-board rs s h above others k number o is =
      let net = net_on f n in
      let rules = rules_of f n in
      let ms = n.table.messages.items in
      is
      ∙ ap (λ (j : ℕ). fit_at net (walk.stored (ranked_of rs)) (leg_at s.bus j) (rule_at rules s.bus (legs_on ms s.bus) j above)) number
      ∙ (λ i. fit_at net (walk.stored (ranked_of rs)) (spot_leg s)
      (rule_at rules s.bus (legs_on ms s.bus) s.message (λ j. others j i)))
      ∙ ap (λ (l : List Leg). fit net (walk.stored (ranked_of rs)) l (spot_leg s))
      (sym (open_at-board rules n.gateway ms n.table.buses (length-rules_of f n) rs s h))
      ∙ ap (λ (p : Delays). fit net p (walk.place_of net (ranked_of rs)).open' (spot_leg s)) (sym (place-delays net (ranked_of rs)))
