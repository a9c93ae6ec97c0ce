use Rattle.std.proofs.Common.{◌≡◌, ℕ, ◌+◌, ◌-◌, List, map, Some, None, Option, refl, ap, ◌∙◌, rules}
use Rattle.std.specs.Option.{option_map, unwrap_or}
use Rattle.search.specs.Walk.{candidates}
use Rattle.search.specs.Stored.{first_open, head_of, place_of, stored, upwards}
use Rattle.boards.specs.Nets.{net_legs, numbers_from}
use Rattle.planner.specs.Storage.{ranked_of, open_legs}
use Rattle.planner.specs.Stages.{layout, reached, spot_leg}
use Rattle.planner.specs.declared.rows.Spot.{Spot}
use Rattle.planner.specs.declared.stage.Stage.{Stage}
use Rattle.planner.specs.declared.stage.Stage.TheVariants.{Testing, Complete}
use Rattle.planner.proofs.FoundFirst.{found_from_find_map}
use Rattle.planner.proofs.InclusiveRanges.{YieldsList-from_inclusive}
use Rattle.planner.proofs.NextTests.{upwards-here, first_open-later, upwards-past}
use Rattle.planner.proofs.table.Table.upward.Goals as goal

pub returns : goal.returns
returns c =
    let t = c.args.self.now in
    let ms = t.messages.items in
    let rs = ranked_of c.args.ranked.now in
    let net = layout t.buses ms in
    let stage : Option Spot → Stage = λ r. unwrap_or (option_map Testing r) Complete in
    let first = λ (bus : ℕ). head_of (candidates net (stored rs) (open_legs ms c.args.ranked.now bus)) in
    let P : List ℕ → Option Spot → Type 0 = λ ks r.
    first_open rs net.buses ≡ first_open rs (map (net_legs ms) ks) → reached c.args.ranked.now (stage r) ≡ Some (upwards net rs (place_of net rs).open') in
    let found : P (numbers_from c.args.from (t.buses + 1 - c.args.from)) c.find_map.result =
    found_from_find_map P _ c.find_map.result c.find_map.ensures.ran c.find_map.ensures.runs
    (YieldsList-from_inclusive c.args.from t.buses (t.buses + 1 - c.args.from) c.new.ensures.start c.new.ensures.end c.new.ensures.exhausted refl)
    (λ a r q k. search rules) (upwards-past t.buses ms rs c.requires.stands)
    (λ bus ks spot q k so.
    let told : option_map spot_leg (Some spot) ≡ first bus = search rules in
    upwards-here t.buses ms rs c.requires.stands bus ks so (spot_leg spot) told)
    (λ bus ks r q k rest so.
    let told : option_map spot_leg None ≡ first bus = search rules in
    rest (first_open-later t.buses ms rs c.requires.stands bus ks so told)) in
    let told : c.map_or.result ≡ stage c.find_map.result = search rules in
    ap (reached c.args.ranked.now) told ∙ found c.requires.full
