use Rattle.std.proofs.Common.{vec_items, [], rules, tests, sym, ◌∙◌, arith}
use Rattle.std.proofs.lemmas.Iterator.{YieldsList-from_slice, YieldsList-from_map}
use Rattle.std.proofs.lemmas.Iterator.Consumers.{sum_by_from_yields_List, fits_by_from_yields_list}
use Rattle.boards.specs.Boards.{board_of}
use Rattle.planner.specs.Spots.{rows_for}
use Rattle.planner.proofs.MarginCounts.{length-margin_rows, rows_for-sum_few}
use Rattle.planner.proofs.Rising.{rising_messages-few}
use Rattle.planner.proofs.table.Table.margin_count.Goals as goal

pub sum-requires-clause-fits : goal.sum-requires-clause-fits
sum-requires-clause-fits c =
    let ms = vec_items c.args.self.now.messages in
    fits_by_from_yields_list rows_for ms c.map.result _
    (YieldsList-from_map _ rows_for (YieldsList-from_slice ms cc) c.map.ensures.closure (λ x r q k. search (rules, tests)))
    (omega (arith, rows_for-sum_few ms, rising_messages-few ms c.args.self.now.rises))

pub returns : goal.returns
returns c meanings gateway =
    let ms = vec_items c.args.self.now.messages in
    sum_by_from_yields_List rows_for ms c.map.result _ c.sum.ensures.ran
    (YieldsList-from_map _ rows_for (YieldsList-from_slice ms cc) c.map.ensures.closure (λ x r q k. search (rules, tests)))
    ∙ sym (length-margin_rows (board_of meanings gateway ms) [])
