-- The equation rule keeps the rule laws, over any carrier; and its delay is that of the least solution, in both directions.
use Rattle.std.specs.Prelude.{◌≡◌, ℕ, ◌≤◌, Bool, cond, List, Some, None, Option}
use Rattle.std.proofs.Common.{sym, ap, ◌∙◌}
use Rattle.std.proofs.lemmas.Option.{none-some}
use Rattle.bus.specs.Legs.{leg_of}
use Rattle.bus.specs.Rules.{Bounded, Absent, Part, Shorter}
use Rattle.bus.specs.declared.leg.Leg.{Leg}
use Rattle.frames.specs.Equation.{time_of, queued, ends, delay_of, equation}
use Rattle.frames.specs.Least.{Least, least_solution, delay_after, Exact}
use Rattle.frames.specs.Delays.{exact, shorter}
use Rattle.frames.specs.Demands.{queued-rises, queued-part}

module _ (time : ℕ → ℕ) (tau : ℕ) where
  abbrev before : Leg → ℕ
  before leg = cond leg.source leg.message.jitter 0

  delay_exact : (legs : List Leg) (n : ℕ) (h : ℕ → Bool) (leg : Leg) →
      Exact (queued time tau legs n h) (ends time leg) leg.message.deadline (delay_of time tau legs n h (Some leg))
  delay_exact legs n h leg = exact (queued time tau legs n h) (before leg) (time_of time leg) leg.message.deadline

  pub equation-exact : (legs : List Leg) (n : ℕ) (h : ℕ → Bool) (leg : Leg) → leg_of legs n ≡ Some leg →
      Exact (queued time tau legs n h) (ends time leg) leg.message.deadline (equation time tau legs n h)
  equation-exact legs n h leg e = rw e (delay_exact legs n h leg)

  -- the same of any value that is the answer
  pub exact-of : (legs : List Leg) (n : ℕ) (h : ℕ → Bool) (r : Option ℕ) → r ≡ equation time tau legs n h → (leg : Leg) → leg_of legs n ≡ Some leg →
      Exact (queued time tau legs n h) (ends time leg) leg.message.deadline r
  exact-of legs n h r e leg here = rw e (equation-exact legs n h leg here)

  pub equation-bounded : Bounded (equation time tau)
  equation-bounded legs n h leg d rises e a = ((equation-exact legs n h leg e).given d a).3

  pub equation-absent : Absent (equation time tau)
  equation-absent legs n h rises e = ap (delay_of time tau legs n h) e

  shorter-at : (legs : List Leg) (n : ℕ) (h k : ℕ → Bool) (d : ℕ) → Part legs n h k → (o : Option Leg) →
      delay_of time tau legs n k o ≡ Some d → (e : ℕ) × (delay_of time tau legs n h o ≡ Some e) × (e ≤ d)
  shorter-at legs n h k d part None a = absurd (none-some d a)
  shorter-at legs n h k d part (Some leg) a =
      shorter (queued time tau legs n h) (queued time tau legs n k) (before leg) (time_of time leg) leg.message.deadline d
      (queued-rises time tau legs n h) (queued-part time tau legs n h k part) a

  pub equation-shorter : Shorter (equation time tau)
  equation-shorter legs n h k d rises part a = shorter-at legs n h k d part (leg_of legs n) a

  -- what a program has found
  pub solved-is : (legs : List Leg) (n : ℕ) (h : ℕ → Bool) (leg : Leg) (o : Option ℕ) → leg_of legs n ≡ Some leg →
      o ≡ least_solution (queued time tau legs n h) leg.message.deadline →
      delay_after (ends time leg) leg.message.deadline o ≡ equation time tau legs n h
  solved-is legs n h leg o here e = ap (delay_after (ends time leg) leg.message.deadline) e ∙ ap (delay_of time tau legs n h) (sym here)

  pub delay_is : (legs : List Leg) (n : ℕ) (h : ℕ → Bool) (leg : Leg) → leg_of legs n ≡ Some leg → (w : ℕ) → Least (queued time tau legs n h) w →
      ends time leg w ≤ leg.message.deadline → equation time tau legs n h ≡ Some (ends time leg w)
  delay_is legs n h leg here w l k = (equation-exact legs n h leg here).gives w l k
