-- What follows where a leg was tested and does not fit.
use Rattle.std.proofs.Common.{◌≡◌, ℕ, true, List, Some, None, Option, sym, ap, ◌∙◌, subst}
use Rattle.bus.specs.declared.message.Message.{Message}
use Rattle.search.specs.Net.{Leg, has}
use Rattle.search.specs.Walk.{candidates}
use Rattle.search.specs.Stored as walk
use Rattle.planner.specs.Storage.{ranked_of, open_legs}
use Rattle.planner.specs.Stages.{layout, spot_leg, stands}
use Rattle.planner.specs.declared.ranked.Ranked.{Ranked}
use Rattle.planner.specs.declared.rows.Spot.{Spot}
use Rattle.planner.specs.declared.stage.Stage.TheVariants.{Testing}
use Rattle.planner.proofs.NextTests.{try_at-next}
use Rattle.planner.proofs.Stands.{stands-open, stands-placed, stands-on_bus}

-- the ranked legs, as they were seen
module _ (count : ℕ) (ms : List Message) (rs : List Ranked) (s : Spot) (h : stands count ms rs (Testing s) ≡ true) (seen : List Ranked)
    (same : seen ≡ rs) where
  pub open_legs-spot : has (spot_leg s) (open_legs ms seen s.bus) ≡ true
  open_legs-spot = subst (λ (v : List Ranked). has (spot_leg s) (open_legs ms v s.bus) ≡ true) (sym same) (stands-on_bus count ms rs s h)

  -- o is tested next, or where there is none the latest ranking is taken back; w is what is reached
  pub try_at-passed : (o : Option Leg) →
      o ≡ walk.head_of (walk.behind (spot_leg s) (candidates (layout count ms) (walk.stored (ranked_of seen)) (open_legs ms seen s.bus))) →
      (w : Option walk.Stage) → w ≡ Some (walk.resume (ranked_of rs) o (walk.retract (layout count ms) (ranked_of rs))) →
      w ≡ Some (walk.try_at (layout count ms) (ranked_of rs) (spot_leg s) None)
  try_at-passed o next w is =
      let there : o ≡ walk.head_of (walk.behind (spot_leg s) (candidates (layout count ms) (walk.stored (ranked_of rs)) (open_legs ms rs s.bus))) =
      next
      ∙ ap (λ (v : List Ranked). walk.head_of (walk.behind (spot_leg s) (candidates (layout count ms) (walk.stored (ranked_of v)) (open_legs ms v s.bus))))
      same in
      is ∙ ap (λ (x : Option Leg). Some (walk.resume (ranked_of rs) x (walk.retract (layout count ms) (ranked_of rs)))) there
      ∙ ap (λ (v : walk.Stage). Some v)
      (sym (try_at-next count ms (ranked_of rs) (stands-placed count ms rs s h) (spot_leg s) (stands-open count ms rs s h)))
