-- The rows of the buses before this one are written.
use Rattle.std.proofs.Common.{◌+◌, ◌-◌, ◌≤◌}
use Rattle.planner.specs.Networks.{net_on}
use Rattle.planner.proofs.AllRows.{Filled}
use Rattle.planner.proofs.found.Found.write_rows.Given as goal

abbrev pub invariant-loop-bus : goal.invariant-loop-bus
invariant-loop-bus g l =
    record {
      within : l.bus ≤ l.bus-end + 1;
      written : Filled (net_on g.R.BusRule.answer l.self.network.now) l.self.ranked.now (l.bus - 1) l.at l.initial.rows l.rows;
    }
