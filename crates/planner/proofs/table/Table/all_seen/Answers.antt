use Rattle.std.proofs.Common.{vec_items, rules, tests, sym, ◌∙◌}
use Rattle.std.proofs.lemmas.Iterator.{YieldsList-from_slice}
use Rattle.std.proofs.lemmas.Iterator.Search.{all_from_yields_List}
use Rattle.bus.specs.Numbered.{member}
use Rattle.search.specs.Net.{Leg}
use Rattle.planner.proofs.MessageLegs.{passes_on, list_all-legs}
use Rattle.planner.proofs.table.Table.all_seen.Goals as goal

pub returns : goal.returns
returns c =
    all_from_yields_List (passes_on (λ (x : Leg). member c.args.seen.bits x.message) c.args.bus) _ _ _ c.all.ensures.ran (YieldsList-from_slice (vec_items c.args.self.now.messages) cc)
    (λ x b q k. search (rules, tests))
    ∙ sym (list_all-legs (λ x. member c.args.seen.bits x.message) (vec_items c.args.self.now.messages) c.args.bus)
