-- The least solution of an equation f w = w over the whole numbers.
use Rattle.std.specs.Prelude.{◌≡◌, ℕ, zero, suc, ◌<◌, ◌≤◌, Bool, cond, Some, None, Option, nat_eq}
use Rattle.bus.specs.Rules.{within}

-- w solves the equation, and no smaller number does
pub record Least (f : ℕ → ℕ) (w : ℕ) : Type 0 where
  pub fixed : f w ≡ w
  pub least : (v : ℕ) → f v ≡ v → w ≤ v

abbrev pub or_else : Option ℕ → Option ℕ → Option ℕ
or_else None b = b
or_else (Some a) b = Some a

-- the first number below n that passes the test
unfoldable pub first_below : (ℕ → Bool) → ℕ → Option ℕ
first_below p zero = None
first_below p (suc n) = or_else (first_below p n) (cond (p n) (Some n) None)

-- the least solution, if it is at most the limit
abbrev pub least_solution : (ℕ → ℕ) → ℕ → Option ℕ
least_solution f limit = first_below (λ w. nat_eq (f w) w) (suc limit)

-- the delay that a queuing time gives; over where there is none, and where the delay passes the deadline
abbrev pub delay_after : (ℕ → ℕ) → ℕ → Option ℕ → Option ℕ
delay_after ends due None = None
delay_after ends due (Some w) = within due (ends w)

-- What is said of a delay r, where w is the queuing time that solves f and `ends w` the delay that it gives:
-- it is that of the least solution, if within the deadline, and it is over exactly where no solution gives one within the deadline.
pub record Exact (f ends : ℕ → ℕ) (due : ℕ) (r : Option ℕ) : Type 0 where
  pub given : (d : ℕ) → r ≡ Some d → (w : ℕ) × Least f w × (ends w ≡ d) × (d ≤ due)
  pub gives : (w : ℕ) → Least f w → ends w ≤ due → r ≡ Some (ends w)
  pub over : r ≡ None → (w : ℕ) → f w ≡ w → due < ends w
  pub passed : ((w : ℕ) → f w ≡ w → due < ends w) → r ≡ None
