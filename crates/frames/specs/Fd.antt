-- The time of a payload on CAN FD, base format (identifiers of 11 bits), from the lengths of the fields in bits.
use Rattle.std.specs.Prelude.{ℕ, ◌+◌, ◌*◌, cond, List, [], ◌∷◌, nat_le}
use Rattle.bus.specs.Range.{Span}

-- the data bit times, by the nominal one
abbrev pub data_times : ℕ → Span
data_times nominal = record { low = 50; high = nominal }

-- the lengths that a data field may have
abbrev pub lengths : List ℕ
lengths = 0 ∷ 1 ∷ 2 ∷ 3 ∷ 4 ∷ 5 ∷ 6 ∷ 7 ∷ 8 ∷ 12 ∷ 16 ∷ 20 ∷ 24 ∷ 32 ∷ 48 ∷ 64 ∷ []

-- the first of the lengths that is not below s
abbrev pub first_from : List ℕ → ℕ → ℕ
first_from [] s = s
first_from (n ∷ ns) s = cond (nat_le s n) n (first_from ns s)

-- the length to which a payload of s bytes is padded
abbrev pub padded : ℕ → ℕ
padded s = first_from lengths s

-- Bits at the nominal rate: 17 from the start of the frame up to the rate switch bit, 4 stuff bits among them at most, and 13 from the
-- CRC delimiter to the end of the intermission.
abbrev pub slow_bits : ℕ
slow_bits = 17 + 4 + 13

-- Stuff count, CRC and fixed stuff bits: a CRC of 17 bits up to 16 bytes, one of 21 bits above.
abbrev pub check_bits : ℕ → ℕ
check_bits n = cond (nat_le n 16) 27 32

-- Bits at the data rate, with n bytes: 5 for the error state and the length code, the data, at most 1 + 2n stuff bits among them, and
-- the check bits.
abbrev pub fast_bits : ℕ → ℕ
fast_bits n = 5 + 8 * n + (1 + 2 * n) + check_bits n

abbrev pub fd_time : ℕ → ℕ → ℕ → ℕ
fd_time nominal data-bit s = slow_bits * nominal + fast_bits (padded s) * data-bit

-- the same, added up
abbrev pub fd_sum : ℕ → ℕ → ℕ → ℕ
fd_sum nominal data-bit n = 34 * nominal + cond (nat_le n 16) (33 + 10 * n) (38 + 10 * n) * data-bit
