use Rattle.std.proofs.Common.{◌+◌, ◌-◌}
use Rattle.bus.specs.Numbered.{member}
use Rattle.frames.specs.Equation.{queued}
use Rattle.frames.specs.Rising.{Climbs}
use Rattle.frames.proofs.equations.Queue.wait.Given as goal

abbrev pub invariant-loop-w : goal.invariant-loop-w
invariant-loop-w g l =
    let carrier = l.self.rule.now.carrier in
    Climbs (queued (g.C.Carrier.time carrier) (g.C.Carrier.bit carrier) l.self.legs.now l.self.number (member l.self.above.bits)) l.w

abbrev pub decreases-loop-w : goal.decreases-loop-w
decreases-loop-w g l = l.leg.message.deadline + 1 - l.w
