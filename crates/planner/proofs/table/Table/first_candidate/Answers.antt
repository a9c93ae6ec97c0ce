use Rattle.std.proofs.Common.{◌≡◌, true, false, sym, ◌∙◌, rules}
use Rattle.std.specs.Option.{option_map}
use Rattle.search.specs.Stored.{or_first}
use Rattle.boards.specs.Nets.{leg_at}
use Rattle.planner.specs.Storage.{next_such}
use Rattle.planner.proofs.Tested.{first-tested}
use Rattle.planner.proofs.table.Table.first_candidate.Goals as goal

pub returns : goal.returns
returns c =
    let ms = c.args.self.now.messages.items in
    let rs = c.args.ranked.now in
    let told : option_map (leg_at c.args.bus) c.or_else.result ≡ or_first (next_such ms rs c.args.bus 0 true) (next_such ms rs c.args.bus 0 false) =
    search rules in
    λ rules gateway. told ∙ sym (first-tested rules gateway ms c.args.self.now.rises rs c.args.bus)
