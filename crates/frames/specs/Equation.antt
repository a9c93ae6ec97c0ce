-- The queuing equation of a leg, over any carrier: `time` is the carrier's time C of a payload, `tau` its bit time.
use Rattle.std.specs.Prelude.{ℕ, ◌+◌, ◌-◌, ◌*◌, ◌/◌, ◌%◌, min, max, Bool, cond, not, ◌&&◌, List, Some, None, fold, sum_by, Option, ◌==◌}
use Rattle.bus.specs.Legs.{leg_of}
use Rattle.bus.specs.Rules.{Meaning}
use Rattle.bus.specs.declared.leg.Leg.{Leg}
use Rattle.frames.specs.Least.{least_solution, delay_after}

-- ⌈a / b⌉: the quotient, and one more where there is a remainder
abbrev pub ceiling : ℕ → ℕ → ℕ
ceiling a b = a / b + min 1 (a % b)

-- C of a leg
abbrev pub time_of : (ℕ → ℕ) → Leg → ℕ
time_of time leg = time leg.message.payload.bytes

-- The jitter of a leg's queuing: a source leg has its message's; a destination leg is queued by the gateway at any moment of the deadline
-- that leaves time for the frame.
abbrev pub jitter_of : (ℕ → ℕ) → Leg → ℕ
jitter_of time leg = cond leg.source leg.message.jitter (leg.message.deadline - time_of time leg)

-- B: the longest C among all legs of the bus, since a frame that has begun is not interrupted
abbrev pub blocking : (ℕ → ℕ) → List Leg → ℕ
blocking time legs = fold (λ b leg. max b (time_of time leg)) 0 legs

-- the leg is another one than n's, and above it
abbrev pub above : ℕ → (ℕ → Bool) → Leg → Bool
above n h leg = not (leg.message.number == n) && h leg.message.number

-- the time of the frames of a leg that go before, in a queuing time w: ⌈(w + J + τ) / T⌉ · C
abbrev pub demand_of : (ℕ → ℕ) → ℕ → ℕ → Leg → ℕ
demand_of time tau w leg = ceiling (w + jitter_of time leg + tau) leg.message.period * time_of time leg

-- that of all legs above n's
abbrev pub interference : (ℕ → ℕ) → ℕ → List Leg → ℕ → (ℕ → Bool) → ℕ → ℕ
interference time tau legs n h w = sum_by (λ leg. cond (above n h leg) (demand_of time tau w leg) 0) legs

-- the right side of the queuing equation w = B + Σ ⌈(w + J + τ) / T⌉ · C
abbrev pub queued : (ℕ → ℕ) → ℕ → List Leg → ℕ → (ℕ → Bool) → ℕ → ℕ
queued time tau legs n h w = blocking time legs + interference time tau legs n h w

-- the delay of a leg that queues for w: J + w + C on its source bus, w + C on a destination bus
abbrev pub ends : (ℕ → ℕ) → Leg → ℕ → ℕ
ends time leg w = cond leg.source leg.message.jitter 0 + w + time_of time leg

-- the delay of a leg: that of the least solution, which may be looked for up to the deadline
abbrev pub delay_of : (ℕ → ℕ) → ℕ → List Leg → ℕ → (ℕ → Bool) → Option Leg → Option ℕ
delay_of time tau legs n h None = None
delay_of time tau legs n h (Some leg) =
    delay_after (ends time leg) leg.message.deadline (least_solution (queued time tau legs n h) leg.message.deadline)

-- the equation rule
abbrev pub equation : (ℕ → ℕ) → ℕ → Meaning
equation time tau legs n h = delay_of time tau legs n h (leg_of legs n)
