-- Where the first row is on a bus of the board, the order of the others tells.
use Rattle.std.proofs.Common.{◌≡◌, ◌∙◌, rules, tests}
use Rattle.std.proofs.lemmas.Fn.{always_returns_same}
use Rattle.planner.proofs.RowBuses.{in_turn, behind_first, behind_first-from_sorted, behind_first-where_first_is_on_bus, first_on_bus}
use Rattle.planner.proofs.table.Table.by_bus.Goals as goal

pub returns-then-is_none_or : goal.returns-then-is_none_or
returns-then-is_none_or c =
    let rows = c.args.rows.now in
    let high = c.args.self.now.buses in
    let sorted : c.is_sorted_by.result ≡ behind_first high rows =
    behind_first-from_sorted high rows c.is_sorted_by.result
    (c.is_sorted_by.ensures.cases (in_turn high) (always_returns_same _ _ _ (λ a r q k. search (rules, tests)))) in
    sorted ∙ behind_first-where_first_is_on_bus high rows _ c.first.ensures.value
    (first_on_bus high _ _ c.first.result c.is_none_or.result c.is_none_or.ensures (λ x k. search (rules, tests)) c.if-is_none_or.true)
