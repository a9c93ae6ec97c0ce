use Rattle.std.proofs.Common.{[]}
use Rattle.std.specs.Option.{option_map}
use Rattle.search.specs.Stored.{unranked}
use Rattle.boards.specs.Nets.{leg_at}
use Rattle.planner.specs.Storage.{ranked_of, open_legs}
use Rattle.planner.proofs.Listed.{message_there, message_listed, message_open, message_next}
use Rattle.planner.proofs.table.Table.after_tested.Goals as goal

pub returns-in_err-find : goal.returns-in_err-find
returns-in_err-find c count =
    let t = c.args.self.now in
    absurd (message_there t.messages.items t.rises (unranked (ranked_of c.args.ranked.now)) c.args.bus c.args.number c.requires c.find.result
    c.find.ensures c.in_err-find.was)

pub next_candidate-requires-clause-listed : goal.next_candidate-requires-clause-listed
next_candidate-requires-clause-listed c =
    message_listed c.args.self.now.messages.items c.args.number c.find.result c.find.ensures c.in_ok-find.field-0 c.in_ok-find.was

pub next_candidate-requires-clause-open : goal.next_candidate-requires-clause-open
next_candidate-requires-clause-open c =
    let ms = c.args.self.now.messages.items in
    message_open ms c.args.number c.find.result c.find.ensures c.in_ok-find.field-0 c.in_ok-find.was c.args.bus
    (open_legs ms c.args.ranked.now c.args.bus) c.requires

pub returns : goal.returns
returns c count =
    let ms = c.args.self.now.messages.items in
    let rs = c.args.ranked.now in
    message_next ms c.args.number c.find.result c.find.ensures c.in_ok-find.field-0 c.in_ok-find.was count c.args.bus (ranked_of rs)
    (open_legs ms rs c.args.bus) (option_map (leg_at c.args.bus) c.next_candidate.result) (c.next_candidate.ensures [] 0)
