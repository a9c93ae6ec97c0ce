-- The legs that came are seen, and their rows written.
use Rattle.std.proofs.Common.{◌≡◌, ◌++◌}
use Rattle.std.specs.Slice.Iter.{iter_rest}
use Rattle.std.specs.Iterator.Adapters.{rev_source}
use Rattle.planner.specs.BusOrders.{order_on, Sees}
use Rattle.planner.specs.Calls.{rows_in}
use Rattle.planner.specs.Networks.{net_on}
use Rattle.planner.proofs.SeenLegs.{came}
use Rattle.planner.proofs.Written.{written}
use Rattle.planner.proofs.found.Found.write_bus.Given as goal

abbrev pub invariant-loop-leg : goal.invariant-loop-leg
invariant-loop-leg g l =
    let o = order_on (came l.yielded) l.bus in
    record {
      left : iter_rest (rev_source l.leg-iterator) ++ came l.yielded ≡ l.self.ranked.now;
      sees : Sees l.bus o l.seen;
      rows : l.rows ≡ written l.at (rows_in (net_on g.R.BusRule.answer l.self.network.now) l.bus o) l.initial.rows;
    }
