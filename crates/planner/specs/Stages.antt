-- How far the walk has come by what the board stores, as the mathematics of the walk has it. No call of a board cites this file.
use Rattle.std.specs.Prelude.{◌≡◌, codes, ℕ, ◌+◌, ◌-◌, Bool, true, false, cond, List, [], map, Some, None, Option}
use Rattle.std.specs.List.{flat_map}
use Rattle.bus.specs.declared.message.Message.{Message}
use Rattle.search.specs.Net.{Leg, Net}
use Rattle.search.specs.Walk.{ready, candidates}
use Rattle.search.specs.Stored as walk
use Rattle.boards.specs.Nets.{leg_at, net_legs, numbers_from, bus_numbers, pairs_of}
use Rattle.planner.specs.Storage.{ranked_of}
use Rattle.planner.specs.declared.progress.Progress.{Progress}
use Rattle.planner.specs.declared.progress.Progress.TheVariants.{Found, Nothing, GoingOn}
use Rattle.planner.specs.declared.ranked.Ranked.{Ranked}
use Rattle.planner.specs.declared.rows.Spot.{Spot}
use Rattle.planner.specs.declared.stage.Stage.{Stage}
use Rattle.planner.specs.declared.stage.Stage.TheVariants.{Start, Testing, Complete, Exhausted}

-- The buses and the pairs of a board with so many buses, and no delays: all of a net that its places depend on.
abbrev pub layout : ℕ → List Message → Net
layout count ms =
    record {
      buses = map (net_legs ms) (bus_numbers count);
      delay = λ _ _. None;
      locals = [];
      pairs = flat_map pairs_of ms;
      gateway = 0;
    }

-- the legs of the buses from one on
abbrev pub buses_from : ℕ → List Message → ℕ → List (List Leg)
buses_from count ms k = map (net_legs ms) (numbers_from k (count + 1 - k))

abbrev pub spot_leg : Spot → Leg
spot_leg s = leg_at s.bus s.message

abbrev pub stage_of : Net → List Ranked → Stage → walk.Stage
stage_of net rs Start = walk.start_stage net
stage_of net rs (Testing s) = walk.testing (ranked_of rs) (spot_leg s)
stage_of net rs Complete = walk.complete (ranked_of rs)
stage_of net rs Exhausted = walk.exhausted

-- the same where the walk has begun
abbrev pub reached : List Ranked → Stage → Option walk.Stage
reached rs Start = None
reached rs (Testing s) = Some (walk.testing (ranked_of rs) (spot_leg s))
reached rs Complete = Some (walk.complete (ranked_of rs))
reached rs Exhausted = Some walk.exhausted

-- what is stored belongs to a walk of these messages
abbrev pub stands : ℕ → List Message → List Ranked → Stage → Bool
stands count ms rs s = walk.placed_at (layout count ms) (stage_of (layout count ms) rs s)

-- the ranked legs belong to a walk of these messages, on some number of buses
abbrev pub Placed : List Message → List Ranked → Type 0
Placed ms rs = (count : ℕ) × (walk.placed (layout count ms) (ranked_of rs) ≡ true)

-- the leg tested after x, once its ranking above the others is taken back, where l were open; none where x was ready
abbrev pub after_ranked : Net → List walk.Ranked → List Leg → Leg → Option Leg
after_ranked net rs l x = cond (ready net (walk.stored rs) x) None (walk.head_of (walk.behind x (candidates net (walk.stored rs) l)))

-- how far the walk has come
abbrev pub progress_by : Stage → Progress
progress_by Start = GoingOn
progress_by (Testing s) = GoingOn
progress_by Complete = Found
progress_by Exhausted = Nothing

-- how it is printed
abbrev pub progress_said : Progress → List ℕ
progress_said Found = codes "found"
progress_said Nothing = codes "none"
progress_said GoingOn = codes "going on"

abbrev pub is_complete : Stage → Bool
is_complete Start = false
is_complete (Testing s) = false
is_complete Complete = true
is_complete Exhausted = false
