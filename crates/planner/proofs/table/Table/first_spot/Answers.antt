use Rattle.std.proofs.Common.{◌≡◌, ℕ, [], sym, ap, ◌∙◌, rules}
use Rattle.std.specs.Option.{option_map}
use Rattle.planner.specs.Stages.{spot_leg}
use Rattle.planner.specs.declared.rows.Spot.{Spot}
use Rattle.planner.proofs.Mapped.{option_map-twice}
use Rattle.planner.proofs.table.Table.first_spot.Goals as goal

pub returns : goal.returns
returns c =
    let spot : ℕ → Spot = λ message. record { bus = c.args.bus; message = message } in
    let told : c.map.result ≡ option_map spot c.first_candidate.result = search rules in
    ap (option_map spot_leg) told ∙ sym (option_map-twice spot spot_leg c.first_candidate.result) ∙ c.first_candidate.ensures [] 0
