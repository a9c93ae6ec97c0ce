-- One turn of the climb to the queuing time, in 64 bits: a sum of which a part was cut.
use Rattle.std.proofs.Common.{◌≡◌, ℕ, ◌+◌, ◌-◌, ◌^◌, ◌<◌, min, Bool, List, arith}
use Rattle.bus.specs.declared.leg.Leg.{Leg}
use Rattle.frames.specs.Equation.{blocking, interference, queued}
use Rattle.frames.specs.Least.{Least}
use Rattle.frames.specs.Demands.{queued-rises}
use Rattle.frames.specs.Rising.{Climbs, climbs-on, climbs-past, climbs-to}

-- a sum of which a part was cut at m, cut at m
cut_sum : (r b i whole part m : ℕ) → r ≡ min (b + i) m → b ≡ whole → i ≡ min part m → r ≡ min (whole + part) m
cut_sum r b i whole part m e f g = omega arith

module _ (time : ℕ → ℕ) (tau : ℕ) (legs : List Leg) (n : ℕ) (h : ℕ → Bool) (w b i next : ℕ)
    (climbs : Climbs (queued time tau legs n h) w) (room : w < 2 ^ 64 - 1)
    (blocks : b ≡ blocking time legs) (interferes : i ≡ min (interference time tau legs n h w) (2 ^ 64 - 1)) (sum : next ≡ min (b + i) (2 ^ 64 - 1)) where
  turn : next ≡ min (queued time tau legs n h w) (2 ^ 64 - 1)
  turn = cut_sum next b i (blocking time legs) (interference time tau legs n h w) (2 ^ 64 - 1) sum blocks interferes

  pub waits_on : Climbs (queued time tau legs n h) next
  waits_on = climbs-on (queued time tau legs n h) (queued-rises time tau legs n h) w next (2 ^ 64 - 1) climbs room turn

  pub waits_past : (next ≡ w → ⊥) → w < next
  waits_past = climbs-past (queued time tau legs n h) (queued-rises time tau legs n h) w next (2 ^ 64 - 1) climbs room turn

  pub waits_to : next ≡ w → Least (queued time tau legs n h) w
  waits_to = climbs-to (queued time tau legs n h) (queued-rises time tau legs n h) w next (2 ^ 64 - 1) climbs room turn
