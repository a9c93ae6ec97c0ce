-- How many legs of a bus can never be late.
use Rattle.std.specs.Prelude.{ℕ, Bool, List, length, is_some}
use Rattle.std.specs.List.{filter}
use Rattle.bus.specs.Numbered.{member}
use Rattle.bus.specs.declared.leg.Leg.{Leg}
use Rattle.frames.specs.Equation.{equation}

-- a leg has a delay within its deadline with every other leg of its bus above it
abbrev pub is_safe : (ℕ → ℕ) → ℕ → List Leg → Leg → Bool
is_safe time tau legs leg = is_some (equation time tau legs leg.message.number (member 18446744073709551615))

abbrev pub safe_count : (ℕ → ℕ) → ℕ → List Leg → ℕ
safe_count time tau legs = length (filter (is_safe time tau legs) legs)
