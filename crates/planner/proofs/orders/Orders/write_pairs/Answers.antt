use Rattle.std.proofs.Common.{◌<◌, length, arith}
use Rattle.planner.proofs.PairWrites.{Pairs-begin, Pairs-room, Pairs-written, Pairs-passed, Pairs-end}
use Rattle.planner.proofs.orders.Orders.write_pairs.Goals.{then-goes_to, else-goes_to}
use Rattle.planner.proofs.orders.Orders.write_pairs.Goals as goal

pub loop-destination-init : goal.loop-destination-init
loop-destination-init g c = Pairs-begin _ _ _

pub bounds-margins-count : goal.bounds-margins-count
bounds-margins-count g c = omega (arith, Pairs-room c.loop-destination.invariant c.loop-destination-test.true c.if-goes_to.ensures)

pub loop-destination-preserved : goal.loop-destination-preserved
loop-destination-preserved g c =
    let was = c.loop-destination.invariant in
    let test = c.loop-destination-test.true in
    elim c.if-goes_to.branch [
      | then-goes_to w ↦
          let within : c.loop-destination.count < length c.loop-destination.margins = omega (arith, Pairs-room was test w.if-goes_to.ensures) in
          rw (w.margins-is, w.count-is) (Pairs-written was test w.if-goes_to.ensures within w.pair_margin.result w.pair_margin.ensures)
      | else-goes_to w ↦ rw (w.margins-is, w.count-is) (Pairs-passed was test w.if-goes_to.ensures)
    ]

pub returns : goal.returns
returns g c = Pairs-end c.loop-destination.invariant c.loop-destination-test.false
