-- A bridge over a rule with the rule laws keeps them.
use Rattle.std.specs.Prelude.{◌≡◌, ℕ, ◌+◌, ◌≤◌, Some, None, Option, nat_le, refl}
use Rattle.std.proofs.Common.{ap, ◌∙◌, arith}
use Rattle.std.proofs.lemmas.Bool.{leb-true, le-leb, cond-true}
use Rattle.std.proofs.lemmas.Option.{none-some, cond_some}
use Rattle.bus.specs.Bridges.{lengthened, bridged}
use Rattle.bus.specs.Legs.{leg_of}
use Rattle.bus.specs.Rules.{Meaning, Bounded, Absent, Shorter}
use Rattle.bus.specs.declared.leg.Leg.{Leg}

-- a delay that is given comes from a shorter one of the rule inside, and is within the deadline
pub record Came (r : ℕ) (l : Option Leg) (o : Option ℕ) (d : ℕ) : Type 0 where
  pub leg : Leg
  pub inner : ℕ
  pub here : l ≡ Some leg
  pub gave : o ≡ Some inner
  pub sum : inner + r ≡ d
  pub within : d ≤ leg.message.deadline

came : (r : ℕ) (l : Option Leg) (o : Option ℕ) (d : ℕ) → lengthened r l o ≡ Some d → Came r l o d
came r None o d e = absurd (none-some d e)
came r (Some leg) None d e = absurd (none-some d e)
came r (Some leg) (Some b) d e =
    let p = cond_some (nat_le (b + r) leg.message.deadline) (b + r) d e in
    record { leg = leg; inner = b; here = refl; gave = refl; sum = p.1; within = omega (arith, leb-true _ _ p.0, p.1) }

pub bridged-bounded : (r : ℕ) (f : Meaning) → Bounded (bridged r f)
bridged-bounded r f legs n h leg d rises here e =
    let w = came r (leg_of legs n) (f legs n h) d e in
    let s : w.leg ≡ leg = cc in
    rw s at w.within

pub bridged-absent : (r : ℕ) (f : Meaning) → Absent (bridged r f)
bridged-absent r f legs n h rises none = ap (λ l. lengthened r l (f legs n h)) none

pub bridged-shorter : (r : ℕ) (f : Meaning) → Shorter f → Shorter (bridged r f)
bridged-shorter r f law legs n h k d rises part e =
    let w = came r (leg_of legs n) (f legs n k) d e in
    let v = law legs n h k w.inner rises part w.gave in
    let le : v.0 + r ≤ w.leg.message.deadline = omega (arith, v.2, w.sum, w.within) in (
      v.0 + r,
      (ap (λ l. lengthened r l (f legs n h)) w.here ∙ ap (λ o. lengthened r (Some w.leg) o) v.1 ∙ cond-true _ _ _ (le-leb _ _ le)),
      omega (arith, v.2, w.sum),
    )
