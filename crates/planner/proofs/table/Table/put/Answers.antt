-- The message is inserted at its place, and there is room for it.
use Rattle.std.proofs.Common.{is_ok, ap, ◌∙◌, arith}
use Rattle.std.specs.List.{list_all}
use Rattle.boards.specs.Boards.{rising_messages, on_board}
use Rattle.planner.proofs.Entered.{entered-rises, list_all-entered}
use Rattle.planner.proofs.Places.{place_of-within, entered-inserted}
use Rattle.planner.proofs.table.Table.put.Goals as goal

pub insert-requires : goal.insert-requires
insert-requires c = omega (arith, c.place_of-at.ensures, place_of-within c.args.self.now.messages.items c.args.message.number)

pub invariant_of-self : goal.invariant_of-self
invariant_of-self c =
    let table = c.args.self.now in
    let m = c.args.message in
    let items = entered-inserted m table.messages.items c.insert.new.self.items c.place_of-at.result (is_ok c.insert.result) table.rises c.requires.free
    c.place_of-at.ensures (λ room. c.insert.ensures.succeeds (omega (arith, table.roomy))) c.insert.ensures.items in
    record {
      few = table.few;
      roomy = omega (arith, c.insert.ensures.capacity, table.roomy);
      rises = ap rising_messages items ∙ entered-rises m table.messages.items table.rises c.requires.free;
      on_buses = ap (list_all (on_board table.buses)) items ∙ list_all-entered m (on_board table.buses) table.messages.items c.requires.on_buses table.on_buses;
    }

pub returns-clause-items : goal.returns-clause-items
returns-clause-items c =
    let table = c.args.self.now in
    let m = c.args.message in
    entered-inserted m table.messages.items c.insert.new.self.items c.place_of-at.result (is_ok c.insert.result) table.rises c.requires.free
    c.place_of-at.ensures (λ room. c.insert.ensures.succeeds (omega (arith, table.roomy))) c.insert.ensures.items
