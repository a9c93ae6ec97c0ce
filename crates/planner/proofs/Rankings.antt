-- The delay with which a leg is ranked, as a search through the ranked legs.
use Rattle.std.proofs.Common.{◌≡◌, ℕ, cond, ◌&&◌, eqb, List, [], ◌∷◌, map, Some, refl, ap, ◌∙◌}
use Rattle.std.specs.List.{find}
use Rattle.std.specs.Option.{option_map}
use Rattle.search.specs.Net.{same}
use Rattle.search.specs.Stored.{stored}
use Rattle.boards.specs.Nets.{leg_at}
use Rattle.planner.specs.Storage.{ranked_leg}
use Rattle.planner.specs.declared.ranked.Ranked.{Ranked}
use Rattle.planner.proofs.Mapped.{option_map-cond}

module _ (bus n : ℕ) where
  pub stored-finds : (rs : List Ranked) →
      option_map (λ (r : Ranked). r.delay) (find (λ (r : Ranked). eqb r.bus bus && eqb r.message n) rs) ≡ stored (map ranked_leg rs) (leg_at bus n)
  unfolding same
  stored-finds [] = refl
  stored-finds (r ∷ rs) =
      option_map-cond (λ (x : Ranked). x.delay) (eqb r.bus bus && eqb r.message n) r _
      ∙ ap (cond (eqb r.bus bus && eqb r.message n) (Some r.delay)) (stored-finds rs)
