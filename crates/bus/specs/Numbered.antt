-- Sets of small numbers, kept as bits: the number k has the value 2 ^ (k - 1).
use Rattle.std.specs.Prelude.{ℕ, ◌-◌, ◌/◌, ◌%◌, ◌^◌, Bool, ◌&&◌, ◌==◌, nat_lt}

-- the set has the number k
unfoldable pub member : ℕ → ℕ → Bool
member bits k = nat_lt 0 k && bits / 2 ^ (k - 1) % 2 == 1
