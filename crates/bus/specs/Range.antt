-- The ranges of the values, one definition each. Times are whole nanoseconds.
use Rattle.std.specs.Prelude.{ℕ, ◌≤◌, Bool, ◌&&◌, nat_le}

-- the numbers from low to high, both among them
pub record Span : Type 0 where
  pub low : ℕ
  pub high : ℕ

-- x is in the span: as a fact, and as a test
abbrev pub In : Span → ℕ → Type 0
In s x = (s.low ≤ x) × (x ≤ s.high)

abbrev pub inside : Span → ℕ → Bool
inside s x = nat_le s.low x && nat_le x s.high

abbrev pub numbers : Span
numbers = record { low = 1; high = 64 }

abbrev pub buses : Span
buses = record { low = 1; high = 8 }

abbrev pub payloads : Span
payloads = record { low = 0; high = 64 }

abbrev pub periods : Span
periods = record { low = 100000; high = 10000000000 }

-- the deadlines of a message, by its period
abbrev pub deadlines : ℕ → Span
deadlines period = record { low = 1; high = period }

-- the jitters of a message, by its deadline
abbrev pub jitters : ℕ → Span
jitters deadline = record { low = 0; high = deadline }

-- the times of one message on a bus
abbrev pub frame_times : Span
frame_times = record { low = 1; high = 128000000 }

abbrev pub bit_times : Span
bit_times = record { low = 50; high = 100000 }

-- the times that a bridge adds
abbrev pub bridge_times : Span
bridge_times = record { low = 0; high = 1000000000 }
