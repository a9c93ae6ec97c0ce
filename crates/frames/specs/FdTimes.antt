-- The padded length is at most 64; the range of the time of a payload on CAN FD, which the carrier has as a law.
use Rattle.std.specs.Prelude.{ℕ, ◌*◌, ◌≤◌}
use Rattle.std.proofs.Common.{arith}
use Rattle.std.proofs.lemmas.Nat.{mul-le}
use Rattle.std.proofs.lemmas.Bool.Decides.{nat_tests}
use Rattle.bus.specs.Range.{In, bit_times, payloads, frame_times}
use Rattle.frames.specs.Fd.{data_times, padded, fast_bits, fd_time}

pub padded-high : (s : ℕ) → s ≤ 64 → padded s ≤ 64
padded-high s h = grind (arith, nat_tests)

pub fast_high : (n : ℕ) → n ≤ 64 → fast_bits n ≤ 678
fast_high n h = grind (arith, nat_tests)

pub fast_low : (n : ℕ) → 1 ≤ fast_bits n
fast_low n = omega arith

pub fd_range : (nominal quick s : ℕ) → In bit_times nominal → In (data_times nominal) quick → In payloads s → In frame_times (fd_time nominal quick s)
fd_range nominal quick s a d p =
    let h : fast_bits (padded s) * quick ≤ 678 * 100000 =
    mul-le (fast_bits (padded s)) quick 678 100000 (fast_high (padded s) (padded-high s p.1)) (omega arith)
    in (omega arith, omega arith)
