use Rattle.std.proofs.Common.{map, is_some, vec_items, ap, ◌∙◌, arith}
use Rattle.planner.proofs.BusRules.{length-rules_of}
use Rattle.planner.proofs.RowPlaces.{row_at-ranked}
use Rattle.planner.proofs.found.Found.row_of.Goals as goal

pub unwrap-requires : goal.unwrap-requires
unwrap-requires g c =
    let network = c.args.self.now.network.now in
    ap is_some c.find_row.ensures
    ∙ row_at-ranked (vec_items network.table.messages) c.args.self.now.ranked.now c.args.self.now.legs (map g.R.BusRule.answer network.rules.now) network.gateway
    c.args.spot.bus c.args.spot.message c.requires.bus.0
    (omega (arith, c.requires.bus.1, length-rules_of g.R.BusRule.answer network)) c.requires.ranked
