-- Equations f w = w where f does not fall: a number that f does not raise has a solution at or below it.
use Rattle.std.specs.Prelude.{◌≡◌, ℕ, zero, suc, ◌<◌, ◌≤◌, min, ◌≢◌}
use Rattle.std.proofs.Common.{⊎_elim, arith}
use Rattle.std.proofs.lemmas.Bool.{cases_lt}
use Rattle.frames.specs.Least.{Least}

-- f does not fall
abbrev pub Rises : (ℕ → ℕ) → Type 0
Rises f = (v w : ℕ) → v ≤ w → f v ≤ f w

module _ (f : ℕ → ℕ) (rises : Rises f) where
  -- a solution at or below v
  abbrev pub Below : ℕ → Type 0
  Below v = (w : ℕ) × (f w ≡ w) × (w ≤ v)

  down : (n v : ℕ) → v ≤ n → f v ≤ v → Below v
  down zero v l h = (v, omega arith, omega arith)
  down (suc n) v l h =
      ⊎_elim
      (λ (g : f v < v).
      let b = down n (f v) (omega arith) (rises (f v) v h) in
      let c : Below v = (b.0, b.1, omega (arith, b.2)) in c)
      (λ (g : v ≤ f v). let c : Below v = (v, omega arith, omega arith) in c)
      (cases_lt (f v) v)

  pub solution_below : (v : ℕ) → f v ≤ v → Below v
  solution_below v h = down v v (omega arith) h

-- w is at or below the right side, and at or below every solution
pub record Climbs (f : ℕ → ℕ) (w : ℕ) : Type 0 where
  pub under : w ≤ f w
  pub before : (v : ℕ) → f v ≡ v → w ≤ v

pub climbs-from_zero : (f : ℕ → ℕ) → Climbs f 0
climbs-from_zero f = record { under = omega arith; before = λ v s. omega arith }

-- One turn: the right side, as far as a number goes that is past w.
module _ (f : ℕ → ℕ) (rises : Rises f) (w next most : ℕ) (climbs : Climbs f w) (room : w < most) (turn : next ≡ min (f w) most) where
  pub climbs-on : Climbs f next
  climbs-on = record {
    under = omega (arith, climbs.under, rises w next (omega (arith, climbs.under)));
    before = λ v s. omega (arith, rises w v (climbs.before v s));
  }

  pub climbs-past : (next ≢ w) → w < next
  climbs-past n = omega (arith, climbs.under)

  pub climbs-to : next ≡ w → Least f w
  climbs-to e = record { fixed = omega (arith, climbs.under); least = climbs.before }
