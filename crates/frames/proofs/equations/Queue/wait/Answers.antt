use Rattle.std.proofs.Common.{◌-◌, ◌^◌, arith}
use Rattle.bus.specs.Numbered.{member}
use Rattle.frames.specs.Demands.{queued-rises}
use Rattle.frames.specs.First.{least-is, none_is}
use Rattle.frames.specs.Rising.{climbs-from_zero, climbs-on, climbs-past, climbs-to}
use Rattle.frames.proofs.equations.Queue.wait.Goals as goal

pub loop-w-init : goal.loop-w-init
loop-w-init g c = climbs-from_zero _

pub loop-w-preserved : goal.loop-w-preserved
loop-w-preserved g c =
    let queue = c.args.self.now in
    let carrier = queue.rule.now.carrier in
    let rises = queued-rises (g.C.Carrier.time carrier) (g.C.Carrier.bit carrier) queue.legs.now queue.number (member queue.above.bits) in
    climbs-on _ rises c.loop-w.w _ (2 ^ 64 - 1) c.loop-w.invariant (omega arith) (omega arith)

pub loop-w-smaller : goal.loop-w-smaller
loop-w-smaller g c =
    let queue = c.args.self.now in
    let carrier = queue.rule.now.carrier in
    let rises = queued-rises (g.C.Carrier.time carrier) (g.C.Carrier.bit carrier) queue.legs.now queue.number (member queue.above.bits) in
    omega (
      arith,
      c.loop-w-test.true,
      climbs-past _ rises c.loop-w.w c.saturating_add-next.result (2 ^ 64 - 1) c.loop-w.invariant (omega arith) (omega arith) c.if-next-w.false,
    )

pub returns-then-next-w : goal.returns-then-next-w
returns-then-next-w g c =
    let queue = c.args.self.now in
    let carrier = queue.rule.now.carrier in
    let rises = queued-rises (g.C.Carrier.time carrier) (g.C.Carrier.bit carrier) queue.legs.now queue.number (member queue.above.bits) in
    let least = climbs-to _ rises c.loop-w.w c.saturating_add-next.result (2 ^ 64 - 1) c.loop-w.invariant (omega arith) (omega arith) c.if-next-w.true
    in record { value = least-is _ _ _ least c.loop-w-test.true; bound = c.loop-w-test.true }

pub returns : goal.returns
returns g c =
    record { value = none_is _ _ (λ v s. omega (arith, c.loop-w.invariant.before v s, c.loop-w-test.false)); bound = tt }
