use Rattle.std.proofs.Common.{rules}
use Rattle.bus.specs.Numbered.{member}
use Rattle.frames.specs.EquationLaws.{exact-of}
use Rattle.frames.proofs.equations.EquationBusRule.delay.Goals as goal

pub returns-in_err-w-clause-least : goal.returns-in_err-w-clause-least
returns-in_err-w-clause-least g c =
    let carrier = c.args.self.now.carrier in
    exact-of (g.C.Carrier.time carrier) (g.C.Carrier.bit carrier) c.args.legs.now c.args.number (member c.args.above.bits) _ (search rules)

pub returns-clause-least : goal.returns-clause-least
returns-clause-least g c =
    let carrier = c.args.self.now.carrier in
    exact-of (g.C.Carrier.time carrier) (g.C.Carrier.bit carrier) c.args.legs.now c.args.number (member c.args.above.bits) _ (search rules)
