use Rattle.std.proofs.Common.{◌∙◌, filter, rules, tests}
use Rattle.std.proofs.lemmas.Iterator.{YieldsList-from_slice}
use Rattle.std.proofs.lemmas.Iterator.Consumers.{YieldsList-from_filter}
use Rattle.planner.proofs.Others.{is_other, Gathers, others-open, gathers_from_fold}
use Rattle.planner.proofs.table.Table.others.Goals as goal

pub returns : goal.returns
returns c =
    let ms = c.args.self.now.messages.items in
    let test = is_other c.args.ranked.now c.args.bus c.args.number in
    let gathered : Gathers (filter test ms) c.fold.result =
    gathers_from_fold _ _ c.empty.result c.fold.result c.fold.ensures.ran
    (YieldsList-from_filter _ test (YieldsList-from_slice ms cc) c.filter.ensures.closure (λ x r q k. search (rules, tests)))
    c.empty.ensures (λ x a b q k. search rules) in
    λ k. gathered k ∙ others-open c.args.ranked.now c.args.bus c.args.number k ms
