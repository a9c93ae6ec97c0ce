use Rattle.std.proofs.Common.{◌≡◌, true, false, sym, ◌∙◌, rules}
use Rattle.std.specs.Option.{option_map}
use Rattle.search.specs.Stored.{or_first}
use Rattle.boards.specs.Nets.{leg_at}
use Rattle.planner.specs.Storage.{next_such}
use Rattle.planner.proofs.Tested.{tested-after_ready, tested-after_unready}
use Rattle.planner.proofs.table.Table.next_candidate.Goals as goal

pub returns-then-not-is_ready : goal.returns-then-not-is_ready
returns-then-not-is_ready c =
    λ rules gateway.
    c.next_such.ensures
    ∙ sym
    (tested-after_unready rules gateway c.args.self.now.messages.items c.args.self.now.rises c.args.ranked.now c.args.bus c.args.message
    c.requires.listed c.requires.open (sym c.is_ready.ensures ∙ c.if-not-is_ready.true))

pub returns : goal.returns
returns c =
    let ms = c.args.self.now.messages.items in
    let rs = c.args.ranked.now in
    let told : option_map (leg_at c.args.bus) c.or_else.result
    ≡ or_first (next_such ms rs c.args.bus c.args.message.number true) (next_such ms rs c.args.bus 0 false) =
    search rules in
    λ rules gateway.
    told
    ∙ sym
    (tested-after_ready rules gateway ms c.args.self.now.rises rs c.args.bus c.args.message c.requires.listed c.requires.open
    (sym c.is_ready.ensures ∙ c.if-not-is_ready.false))
