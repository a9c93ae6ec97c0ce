use Rattle.std.proofs.Common.{vec_items, rules, tests, ℕ, ◌&&◌, Bool, ap, ◌∙◌, arith}
use Rattle.std.proofs.lemmas.Iterator.Search.{all_from_yields_List}
use Rattle.std.specs.List.{list_all}
use Rattle.boards.specs.Nets.{net_legs, bus_numbers}
use Rattle.planner.specs.Checks.{is_order, order_in}
use Rattle.planner.proofs.InclusiveRanges.{YieldsList-from_inclusive}
use Rattle.planner.proofs.table.Table.names_legs.Goals as goal

pub returns-then-by_bus : goal.returns-then-by_bus
returns-then-by_bus c =
    let f : ℕ → Bool = λ k. is_order (order_in c.args.rows.now k) (net_legs (vec_items c.args.self.now.messages) k) in
    let n = c.args.self.now.buses in
    all_from_yields_List f _ _ _ c.all.ensures.ran (YieldsList-from_inclusive 1 n n (cc) (cc) (cc) (omega arith)) (λ x b q k. search (rules, tests))
    ∙ ap (λ t. t && list_all f (bus_numbers n)) c.if-by_bus.ensures
