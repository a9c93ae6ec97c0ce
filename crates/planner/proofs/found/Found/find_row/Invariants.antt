-- The legs that came are seen, and none of them is the one that is looked for.
use Rattle.std.proofs.Common.{◌≡◌, ◌++◌, None}
use Rattle.std.specs.Slice.Iter.{iter_rest}
use Rattle.std.specs.Iterator.Adapters.{rev_source}
use Rattle.planner.specs.BusOrders.{order_on, Sees}
use Rattle.planner.specs.Calls.{rows_in, row_at}
use Rattle.planner.specs.Networks.{net_on}
use Rattle.planner.proofs.SeenLegs.{came}
use Rattle.planner.proofs.found.Found.find_row.Given as goal

abbrev pub invariant-loop-leg : goal.invariant-loop-leg
invariant-loop-leg g l =
    let o = order_on (came l.yielded) l.spot.bus in
    record {
      left : iter_rest (rev_source l.leg-iterator) ++ came l.yielded ≡ l.self.ranked.now;
      sees : Sees l.spot.bus o l.seen;
      none : row_at l.spot.bus l.spot.message (rows_in (net_on g.R.BusRule.answer l.self.network.now) l.spot.bus o) ≡ None;
    }
