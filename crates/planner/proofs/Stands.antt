-- What is stored belongs to a walk: while a leg is tested, the leg is open and the ranked legs are placed.
use Rattle.std.proofs.Common.{◌≡◌, ℕ, true, List}
use Rattle.std.proofs.lemmas.Bool.{and_parts}
use Rattle.bus.specs.declared.message.Message.{Message}
use Rattle.search.specs.Net.{has}
use Rattle.search.specs.Stored.{place_of, placed}
use Rattle.planner.specs.Storage.{ranked_of, open_legs}
use Rattle.planner.specs.Stages.{layout, spot_leg, stands}
use Rattle.planner.specs.declared.ranked.Ranked.{Ranked}
use Rattle.planner.specs.declared.rows.Spot.{Spot}
use Rattle.planner.specs.declared.stage.Stage.TheVariants.{Testing}
use Rattle.planner.proofs.NextTests.{leg-open}

module _ (count : ℕ) (ms : List Message) (rs : List Ranked) (s : Spot) (h : stands count ms rs (Testing s) ≡ true) where
  both : (has (spot_leg s) (place_of (layout count ms) (ranked_of rs)).open' ≡ true) × (placed (layout count ms) (ranked_of rs) ≡ true)
  both = and_parts (has (spot_leg s) (place_of (layout count ms) (ranked_of rs)).open') (placed (layout count ms) (ranked_of rs)) h

  pub stands-open : has (spot_leg s) (place_of (layout count ms) (ranked_of rs)).open' ≡ true
  stands-open = both.0

  pub stands-placed : placed (layout count ms) (ranked_of rs) ≡ true
  stands-placed = both.1

  pub stands-on_bus : has (spot_leg s) (open_legs ms rs s.bus) ≡ true
  stands-on_bus = leg-open count ms (ranked_of rs) stands-placed (spot_leg s) stands-open
