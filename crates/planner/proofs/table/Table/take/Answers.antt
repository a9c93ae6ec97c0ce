-- What stands at the place of the number is cut out where it has the number.
use Rattle.std.proofs.Common.{ap, ◌∙◌, rules, arith}
use Rattle.std.specs.List.{list_all}
use Rattle.boards.specs.Boards.{rising_messages, on_board}
use Rattle.planner.proofs.Places.{withdrawn-where_it_stands, withdrawn-where_it_does_not_stand}
use Rattle.planner.proofs.Withdrawn.{withdrawn-rises, list_all-withdrawn}
use Rattle.planner.proofs.table.Table.take.Goals as goal

pub invariant_of-self : goal.invariant_of-self
invariant_of-self c =
    let table = c.args.self.now in
    let n = c.args.number in
    let items =
    withdrawn-where_it_stands n table.messages.items table.rises c.place_of-at.result c.place_of-at.ensures c.deref.result.now c.deref.ensures.value
    c.get.result (c.get.ensures.lookup.0, c.get.ensures.lookup.1) c.is_some_and.result _ c.is_some_and.ensures (λ x q. search rules) c.if-is_some_and.true c.remove.new.self.items c.remove.ensures.items in
    record {
      few = table.few;
      roomy = omega (arith, c.remove.ensures.capacity, table.roomy);
      rises = ap rising_messages items ∙ withdrawn-rises n table.messages.items table.rises;
      on_buses = ap (list_all (on_board table.buses)) items ∙ list_all-withdrawn n (on_board table.buses) table.messages.items table.on_buses;
    }

pub returns-then-is_some_and-clause-items : goal.returns-then-is_some_and-clause-items
returns-then-is_some_and-clause-items c =
    let table = c.args.self.now in
    withdrawn-where_it_stands c.args.number table.messages.items table.rises c.place_of-at.result c.place_of-at.ensures c.deref.result.now c.deref.ensures.value
    c.get.result (c.get.ensures.lookup.0, c.get.ensures.lookup.1) c.is_some_and.result _ c.is_some_and.ensures (λ x q. search rules) c.if-is_some_and.true c.remove.new.self.items c.remove.ensures.items

pub returns-else-is_some_and-clause-items : goal.returns-else-is_some_and-clause-items
returns-else-is_some_and-clause-items c =
    let table = c.args.self.now in
    withdrawn-where_it_does_not_stand c.args.number table.messages.items table.rises c.place_of-at.result c.place_of-at.ensures c.deref.result.now c.deref.ensures.value
    c.get.result (c.get.ensures.lookup.0, c.get.ensures.lookup.1) c.is_some_and.result _ c.is_some_and.ensures (λ x q. search rules) c.if-is_some_and.false
