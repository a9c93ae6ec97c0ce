use Rattle.std.proofs.Common.{refl, ◌∙◌, rules, tests}
use Rattle.std.proofs.lemmas.Iterator.Search.{all_from_yields_List}
use Rattle.search.specs.Stored.{stored}
use Rattle.search.specs.Walk.{passes}
use Rattle.boards.specs.Nets.{leg_at}
use Rattle.planner.specs.Networks.{net_on}
use Rattle.planner.specs.Partners.{passes_to}
use Rattle.planner.specs.Storage.{ranked_of}
use Rattle.planner.proofs.Destinations.{pairs_of-by_bus}
use Rattle.planner.proofs.InclusiveRanges.{YieldsList-from_inclusive}
use Rattle.planner.proofs.network.Network.pairs_pass.Goals as goal

pub returns : goal.returns
returns g c =
    let net = net_on g.R.BusRule.answer c.args.self.now in
    let p = stored (ranked_of c.args.ranked.now) in
    let range = YieldsList-from_inclusive 1 8 8 c.new.ensures.start c.new.ensures.end c.new.ensures.exhausted refl in
    all_from_yields_List (passes_to net p c.args.message c.args.bus c.args.delay) _ _ c.all.result c.all.ensures.ran range
    (λ x b q k. search (rules, tests))
    ∙ pairs_of-by_bus (passes net p (leg_at c.args.bus c.args.message.number) c.args.delay) c.args.message
