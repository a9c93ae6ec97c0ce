-- What a chain over `a..=b` gives: the numbers from a to b.
use Rattle.std.proofs.Common.{◌≡◌, ℕ, zero, suc, ◌+◌, ◌-◌, true, false, ap, ◌∙◌, inl, inr, add-one, arith}
use Rattle.std.specs.Iterator.{AlwaysYields}
use Rattle.std.specs.declared.ops.RangeInclusive.{RangeInclusive}
use Rattle.std.specs.Range.{range_inclusive_start, range_inclusive_end, range_inclusive_exhausted, range_inclusive_len}
use Rattle.std.proofs.iter.runs.Sources.{nat_range_inclusive_steps}
use Rattle.std.proofs.lemmas.Bool.{cases_Bool}
use Rattle.std.proofs.lemmas.Iterator.{YieldsList}
use Rattle.boards.specs.Nets.{numbers_from}

-- how many numbers are left
abbrev left : RangeInclusive ℕ → ℕ
left s = range_inclusive_len (λ x y. y - x) (range_inclusive_start s) (range_inclusive_end s) (range_inclusive_exhausted s)

left-exhausted : (s : RangeInclusive ℕ) → range_inclusive_exhausted s ≡ true → left s ≡ 0
left-exhausted s e = ap (range_inclusive_len (λ x y. y - x) (range_inclusive_start s) (range_inclusive_end s)) e

AlwaysYields-from_inclusive : (n a : ℕ) (s : RangeInclusive ℕ) → left s ≡ n → (range_inclusive_exhausted s ≡ false → range_inclusive_start s ≡ a) →
    AlwaysYields nat_range_inclusive_steps (λ x. x) s (numbers_from a n)
AlwaysYields-from_inclusive zero a s e starts = λ x t p. omega (arith, p.1.1)
AlwaysYields-from_inclusive (suc n) a s e starts = (
  λ t p. omega (arith, p.1.0),
  λ x t p.
      elim (cases_Bool (range_inclusive_exhausted s)) [
        | inl y ↦ absurd (omega (arith, left-exhausted s y))
        | inr y ↦
            (p.1.0 ∙ starts y, AlwaysYields-from_inclusive n (suc a) t (omega (arith, p.1.1)) (λ f. p.1.2 f ∙ ap (λ k. k + 1) (starts y) ∙ add-one a))
      ],
)

pub YieldsList-from_inclusive : {s : RangeInclusive ℕ} (a b n : ℕ) → range_inclusive_start s ≡ a → range_inclusive_end s ≡ b → range_inclusive_exhausted s ≡ false →
    b + 1 - a ≡ n → YieldsList nat_range_inclusive_steps (λ x. x) s (numbers_from a n)
YieldsList-from_inclusive {s} a b n low high fresh many =
    let counted : left s ≡ range_inclusive_end s - range_inclusive_start s + 1 - (range_inclusive_start s - range_inclusive_end s) =
    ap (range_inclusive_len (λ x y. y - x) (range_inclusive_start s) (range_inclusive_end s)) fresh in
    record { runs = AlwaysYields-from_inclusive n a s (omega arith) (λ _. low) }
