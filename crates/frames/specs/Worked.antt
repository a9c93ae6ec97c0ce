-- Worked numbers, with a bit time of 2000 ns, and 500 ns in the data phase of CAN FD.
use Rattle.std.specs.Prelude.{◌≡◌, ℕ, true, false, [], ◌∷◌, Some, nat_eq, refl}
use Rattle.std.proofs.Common.{lit≤}
use Rattle.bus.specs.Numbered.{member}
use Rattle.bus.specs.Range.{In, numbers, periods, deadlines, jitters}
use Rattle.bus.specs.declared.leg.Leg.{Leg}
use Rattle.frames.specs.Classic.{can11_time, can29_time}
use Rattle.frames.specs.Equation.{equation}
use Rattle.frames.specs.Fd.{fd_time}

pub nowhere : member 0 1 ≡ false
unfolding member
nowhere = refl

-- the source leg of a local message of 8 bytes on bus 1
abbrev pub sent : (number period deadline jitter : ℕ) →
    In numbers number → In periods period → In (deadlines period) deadline → In (jitters deadline) jitter → Leg
sent number period deadline jitter a b c d = record {
  message = record {
    number = number;
    source = 1;
    destinations = 0;
    payload = record { bytes = 8; range = (lit≤ tt, lit≤ tt) };
    period = period;
    deadline = deadline;
    jitter = jitter;
    number_range = a;
    source_range = (lit≤ tt, lit≤ tt);
    period_range = b;
    deadline_range = c;
    jitter_range = d;
    elsewhere = nowhere;
  };
  source = true;
}

-- message 1 comes once in 1,000,000 ns, with the jitter that is given; message 2 has no jitter, and 2,000,000 ns time
abbrev pub early : Leg
early = sent 1 1000000 1000000 458000 (lit≤ tt, lit≤ tt) (lit≤ tt, lit≤ tt) (lit≤ tt, lit≤ tt) (lit≤ tt, lit≤ tt)

abbrev pub late : Leg
late = sent 1 1000000 1000000 458001 (lit≤ tt, lit≤ tt) (lit≤ tt, lit≤ tt) (lit≤ tt, lit≤ tt) (lit≤ tt, lit≤ tt)

abbrev pub lower : Leg
lower = sent 2 2000000 2000000 0 (lit≤ tt, lit≤ tt) (lit≤ tt, lit≤ tt) (lit≤ tt, lit≤ tt) (lit≤ tt, lit≤ tt)

pub record WorkedNumbers : Type 0 where
  pub can11_8 : can11_time 2000 8 ≡ 270000
  pub can11_12 : can11_time 2000 12 ≡ 460000
  pub can29_0 : can29_time 2000 0 ≡ 160000
  pub fd11_8 : fd_time 2000 500 8 ≡ 124500
  pub fd11_16 : fd_time 2000 500 16 ≡ 164500
  pub fd11_17 : fd_time 2000 500 17 ≡ 187000
  pub fd11_64 : fd_time 2000 500 64 ≡ 407000
  -- Message 2 below message 1 on can11. One nanosecond more of jitter lets a second frame of message 1 go before.
  pub one_before : equation (can11_time 2000) 2000 (early ∷ lower ∷ []) 2 (λ k. nat_eq k 1) ≡ Some 810000
  pub two_before : equation (can11_time 2000) 2000 (late ∷ lower ∷ []) 2 (λ k. nat_eq k 1) ≡ Some 1080000
