use Rattle.std.proofs.Common.{rules, tests, refl}
use Rattle.std.proofs.lemmas.Iterator.Consumers.{YieldsList-from_filter, count_from_yields_List}
use Rattle.bus.specs.Numbered.{member}
use Rattle.planner.proofs.InclusiveRanges.{YieldsList-from_inclusive}
use Rattle.planner.proofs.margins.destination_count.Goals as goal

pub returns : goal.returns
returns c =
    count_from_yields_List _ _ c.count.ensures.ran
    (YieldsList-from_filter _ (member c.args.message.destinations) (YieldsList-from_inclusive 1 8 8 (cc) (cc) (cc) refl) c.filter.ensures.closure (λ x r q k. search (rules, tests)))
