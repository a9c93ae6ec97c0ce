use Rattle.std.proofs.Common.{true, ◌∷◌, refl}
use Rattle.std.proofs.lemmas.Bool.{eq-eqb}
use Rattle.boards.specs.Nets.{leg_at}
use Rattle.planner.proofs.SeenLegs.{Sees-more, Sees-where}
use Rattle.planner.proofs.seen_legs.Seen.with.Goals as goal

pub returns : goal.returns
returns c =
    let bus = c.args.bus in
    let n = c.args.leg.message in
    λ o h.
    Sees-where _ true bus (leg_at bus n ∷ o) o _ (eq-eqb c.args.leg.bus bus c.if-leg-bus.false)
    (Sees-more bus n o c.args.self _ c.requires.number refl c.with.ensures h)
