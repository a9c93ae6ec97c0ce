-- The bridge: a fixed time more on every delay of the rule inside.
use Rattle.std.specs.Prelude.{ℕ, ◌+◌, Some, None, Option}
use Rattle.bus.specs.Legs.{leg_of}
use Rattle.bus.specs.Rules.{Meaning, within}
use Rattle.bus.specs.declared.leg.Leg.{Leg}

-- the delay and r more; over where the delay is, and where the sum passes the leg's deadline
abbrev pub lengthened : ℕ → Option Leg → Option ℕ → Option ℕ
lengthened r None d = None
lengthened r (Some leg) None = None
lengthened r (Some leg) (Some d) = within leg.message.deadline (d + r)

abbrev pub bridged : ℕ → Meaning → Meaning
bridged r f legs n h = lengthened r (leg_of legs n) (f legs n h)
