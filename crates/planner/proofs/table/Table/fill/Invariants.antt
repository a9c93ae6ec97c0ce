-- The legs written, and those of the messages to come, are the legs of the bus.
use Rattle.std.proofs.Common.{◌≡◌, ◌≤◌, ◌++◌, take, drop}
use Rattle.bus.specs.Legs.{legs_on}
use Rattle.planner.proofs.table.Table.fill.Given as goal

abbrev pub invariant-loop-message : goal.invariant-loop-message
invariant-loop-message l =
    (l.count ≤ l.message-index)
    × (take l.count l.legs ++ legs_on (drop l.message-index l.message-items) l.bus ≡ legs_on l.self.messages.items l.bus)
