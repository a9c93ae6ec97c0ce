-- The ranked legs of a board with one more, which was open.
use Rattle.std.proofs.Common.{◌≡◌, ℕ, true, List, [], ◌∷◌, ◌++◌, Some, sym, ap, ◌∙◌, subst}
use Rattle.bus.specs.declared.message.Message.{Message}
use Rattle.search.specs.Net.{has}
use Rattle.search.specs.Stored as walk
use Rattle.search.proofs.Kept.{placed-more}
use Rattle.planner.specs.Storage.{ranked_of}
use Rattle.planner.specs.Stages.{layout, buses_from, spot_leg, reached, stands}
use Rattle.planner.specs.declared.ranked.Ranked.{Ranked}
use Rattle.planner.specs.declared.rows.Spot.{Spot}
use Rattle.planner.specs.declared.stage.Stage.{Stage}
use Rattle.planner.specs.declared.stage.Stage.TheVariants.{Testing}
use Rattle.planner.proofs.NextBus.{open-from_its_bus}
use Rattle.planner.proofs.NextTests.{open_on-board}
use Rattle.planner.proofs.Stands.{stands-open, stands-placed}
use Rattle.planner.proofs.TakenBack.{ranked_of-more}

-- all are the ranked legs with the one more, and they are seen so
module _ (count : ℕ) (ms : List Message) (rs : List Ranked) (s : Spot) (h : stands count ms rs (Testing s) ≡ true) (d : ℕ)
    (seen all : List Ranked) (same : seen ≡ all) (more : all ≡ rs ++ record { bus = s.bus; message = s.message; delay = d } ∷ []) where
  latest : ranked_of seen ≡ record { leg = spot_leg s; delay = d } ∷ ranked_of rs
  latest = ap ranked_of (same ∙ more) ∙ ranked_of-more rs (record { bus = s.bus; message = s.message; delay = d })

  pub pushed_placed : walk.placed (layout count ms) (ranked_of seen) ≡ true
  pushed_placed =
      subst (λ v. walk.placed (layout count ms) v ≡ true) (sym latest)
      (placed-more (layout count ms) (ranked_of rs) (spot_leg s) d (stands-open count ms rs s h) (stands-placed count ms rs s h))

  pub first_open-pushed : walk.first_open (ranked_of seen) (layout count ms).buses ≡ walk.first_open (ranked_of seen) (buses_from count ms s.bus)
  first_open-pushed =
      let on = ap (has (spot_leg s)) (sym (open_on-board count ms (ranked_of rs) (stands-placed count ms rs s h))) ∙ stands-open count ms rs s h in
      subst (λ v. walk.first_open v (layout count ms).buses ≡ walk.first_open v (buses_from count ms s.bus)) (sym latest)
      (open-from_its_bus ms (ranked_of rs) count (record { leg = spot_leg s; delay = d }) (spot_leg s) on)

  pub pushed_up : (t : Stage) →
      reached seen t ≡ Some (walk.upwards (layout count ms) (ranked_of seen) (walk.place_of (layout count ms) (ranked_of seen)).open') →
      reached all t ≡ Some (walk.try_at (layout count ms) (ranked_of rs) (spot_leg s) (Some d))
  pushed_up t up =
      ap (λ (v : List Ranked). reached v t) (sym same) ∙ up
      ∙ ap (λ v. Some (walk.upwards (layout count ms) v (walk.place_of (layout count ms) v).open')) latest
