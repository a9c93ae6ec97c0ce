-- The time of a payload on CAN FD, added up.
use Rattle.std.proofs.Common.{◌≡◌, ℕ, ◌+◌, ◌*◌, cond, nat_le, ap, arith}
use Rattle.std.proofs.lemmas.Bool.Decides.{nat_tests}
use Rattle.frames.specs.Fd.{padded, fast_bits, fd_time, fd_sum}

fast_sum : (n : ℕ) → fast_bits n ≡ cond (nat_le n 16) (33 + 10 * n) (38 + 10 * n)
fast_sum n = grind (arith, nat_tests)

pub fd_sum_lem : (nominal quick s : ℕ) → fd_time nominal quick s ≡ fd_sum nominal quick (padded s)
fd_sum_lem nominal quick s = ap (λ z. 34 * nominal + z * quick) (fast_sum (padded s))
