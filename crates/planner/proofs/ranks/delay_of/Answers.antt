use Rattle.std.proofs.Common.{◌≡◌, ◌&&◌, eqb, reverse, ap, ◌∙◌, rules, tests}
use Rattle.std.specs.Option.{option_map}
use Rattle.std.proofs.lemmas.Iterator.Adapters.{YieldsList-from_rev_slice}
use Rattle.std.proofs.lemmas.Iterator.Search.{find_from_yields_List}
use Rattle.planner.specs.declared.ranked.Ranked.{Ranked}
use Rattle.planner.proofs.Mapped.{option_map-twice}
use Rattle.planner.proofs.Rankings.{stored-finds}
use Rattle.planner.proofs.ranks.delay_of.Goals as goal

pub returns : goal.returns
returns c =
    let found =
    find_from_yields_List (λ (r : Ranked). eqb r.bus c.args.bus && eqb r.message c.args.message) _ _ c.find.result c.find.ensures.ran
    (YieldsList-from_rev_slice c.args.ranked.now (cc)) (λ x b q k. search (rules, tests)) in
    let told : c.map.result ≡ option_map (λ r. r.now.delay) c.find.result = search rules in
    told ∙ option_map-twice _ _ c.find.result ∙ ap (option_map (λ (r : Ranked). r.delay)) found ∙ stored-finds c.args.bus c.args.message (reverse c.args.ranked.now)
