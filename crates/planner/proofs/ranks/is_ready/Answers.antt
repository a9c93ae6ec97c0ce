use Rattle.std.proofs.Common.{◌||◌, not, refl, ◌∙◌, rules, tests}
use Rattle.std.proofs.lemmas.Iterator.Search.{all_from_yields_List}
use Rattle.bus.specs.Numbered.{member}
use Rattle.search.specs.Stored.{stored}
use Rattle.search.specs.Walk.{partnered}
use Rattle.boards.specs.Nets.{leg_at, pair_to}
use Rattle.planner.specs.Storage.{ranked_of}
use Rattle.planner.proofs.Destinations.{pairs_of-by_bus}
use Rattle.planner.proofs.InclusiveRanges.{YieldsList-from_inclusive}
use Rattle.planner.proofs.ranks.is_ready.Goals as goal

pub returns : goal.returns
returns c =
    let f = partnered (stored (ranked_of c.args.ranked.now)) (leg_at c.args.bus c.args.message.number) in
    let range = YieldsList-from_inclusive 1 8 8 c.new.ensures.start c.new.ensures.end c.new.ensures.exhausted refl in
    all_from_yields_List (λ k. not (member c.args.message.destinations k) || f (pair_to c.args.message k)) _ _ c.all.result c.all.ensures.ran range
    (λ x b q k. search (rules, tests))
    ∙ pairs_of-by_bus f c.args.message
