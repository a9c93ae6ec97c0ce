use Rattle.std.proofs.Common.{rules, tests, ◌==◌, ◌∙◌}
use Rattle.std.proofs.lemmas.Iterator.{YieldsList-from_slice}
use Rattle.std.proofs.lemmas.Iterator.Search.{find_from_yields_List}
use Rattle.bus.proofs.LegLists.{find_leg}
use Rattle.bus.proofs.legs.leg_of.Goals as goal

pub returns : goal.returns
returns c =
    c.copied.ensures
    ∙ find_from_yields_List (λ x. x.message.number == c.args.number) _ _ _ c.find.ensures.ran (YieldsList-from_slice c.args.legs.now cc) (λ x b q k. search (rules, tests))
    ∙ find_leg c.args.legs.now c.args.number
