-- The time of a payload on classic CAN: the longest frame, with every stuff bit that may come.
use Rattle.std.specs.Prelude.{ℕ, ◌+◌, ◌*◌, ◌/◌, ◌%◌, cond, List, [], ◌∷◌, ◌++◌, replicate, sum_by, ◌==◌, nat_le}

-- The sizes of the frames in which s bytes go: one frame up to eight bytes; above, frames of eight and one for the remainder, if there
-- is one.
abbrev pub pieces : ℕ → List ℕ
pieces s = cond (nat_le s 8) (s ∷ []) (replicate (s / 8) 8 ++ cond (s % 8 == 0) [] (s % 8 ∷ []))

-- one frame of s bytes, where an empty one has `base` bits and a bit takes `bit`: ten bits for each byte, stuff bits among them
abbrev pub frame : ℕ → ℕ → ℕ → ℕ
frame base bit s = (base + 10 * s) * bit

abbrev pub classic_time : ℕ → ℕ → ℕ → ℕ
classic_time base bit s = sum_by (frame base bit) (pieces s)

-- identifiers of 11 bits, and of 29
abbrev pub can11_time : ℕ → ℕ → ℕ
can11_time = classic_time 55

abbrev pub can29_time : ℕ → ℕ → ℕ
can29_time = classic_time 80
