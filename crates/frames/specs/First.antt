-- The first number below a limit that passes a test, and the least solution of an equation that it gives.
use Rattle.std.specs.Prelude.{◌≡◌, ℕ, zero, suc, ◌<◌, ◌≤◌, Bool, true, false, ◌⊎◌, Some, None, ◌==◌}
use Rattle.std.proofs.Math.Path.{refl, ap}
use Rattle.std.proofs.Common.{sym, ◌∙◌, inl, inr}
use Rattle.std.proofs.Math.Logic.{⊎_elim}
use native.Mathlib.Omega.{arith}
use borrow.Author.Count.{below_none, below_more}
use Rattle.std.proofs.lemmas.Bool.{cases_Bool, cases_lt, eqb-true, eq-eqb, both_ways}
use Rattle.frames.specs.Least.{Least, first_below, least_solution}

module _ (p : ℕ → Bool) where
  -- none passes
  abbrev Fails : ℕ → Type 0
  Fails n = (v : ℕ) → v < n → p v ≡ false

  pub first-none : (n : ℕ) → Fails n → first_below p n ≡ None
  unfolding first_below
  first-none zero h = refl
  first-none (suc n) h = rw (first-none n (λ v l. h v (omega arith)), h n (omega arith)) refl

  pub first_some : (n w : ℕ) → w < n → p w ≡ true → Fails w → first_below p n ≡ Some w
  unfolding first_below
  first_some zero w l e h = absurd (omega arith)
  first_some (suc n) w l e h =
      ⊎_elim
      (λ (g : w < n). rw (first_some n w g e h) refl)
      (λ (g : n ≤ w). let s : n ≡ w = omega arith in rw (s, first-none w h, e) refl)
      (cases_lt w n)

  -- the first that passes, or that none does
  pub data Search (n : ℕ) : Type 0 where
    hit : (w : ℕ) → w < n → p w ≡ true → Fails w → Search n
    miss : Fails n → Search n

  further : (n : ℕ) → Search n → (p n ≡ true) ⊎ (p n ≡ false) → Search (suc n)
  further n (hit w l e h) t = hit w (omega arith) e h
  further n (miss h) (inl e) = hit n (omega arith) e h
  further n (miss h) (inr e) = miss (λ v l. below_more (λ k. p k ≡ false) n h e v (omega arith))

  pub searched : (n : ℕ) → Search n
  searched zero = miss (below_none (λ k. p k ≡ false))
  searched (suc n) = further n (searched n) (cases_Bool (p n))

module _ (f : ℕ → ℕ) where
  abbrev test : ℕ → Bool
  test w = f w == w

  -- the least solution up to a limit, or that all solutions are past it
  pub data Solved (limit : ℕ) : Type 0 where
    solved : (w : ℕ) → Least f w → w ≤ limit → least_solution f limit ≡ Some w → Solved limit
    unsolved : ((v : ℕ) → f v ≡ v → limit < v) → least_solution f limit ≡ None → Solved limit

  solve : (limit : ℕ) → Search test (suc limit) → Solved limit
  solve limit (hit w l e h) =
      solved w
      (record {
        fixed = eqb-true (f w) w e;
        least = λ v s. ⊎_elim (λ (g : v < w). absurd (both_ways (test v) (h v g) (eq-eqb (f v) v s))) (λ (g : w ≤ v). g) (cases_lt v w);
      })
      (omega arith)
      (first_some test (suc limit) w l e h)
  solve limit (miss h) =
      unsolved
      (λ v s.
      ⊎_elim (λ (g : v < suc limit). absurd (both_ways (test v) (h v g) (eq-eqb (f v) v s))) (λ (g : suc limit ≤ v). g) (cases_lt v (suc limit)))
      (first-none test (suc limit) h)

  pub least-to : (limit : ℕ) → Solved limit
  least-to limit = solve limit (searched test (suc limit))

  -- what a program has found
  pub least-is : (limit w : ℕ) → Least f w → w ≤ limit → Some w ≡ least_solution f limit
  least-is limit w l h = go (least-to limit)
    where
      go : Solved limit → Some w ≡ least_solution f limit
      go (solved u m k e) = let s : w ≡ u = omega (arith, l.least u m.fixed, m.least w l.fixed) in ap (λ z. Some z) s ∙ sym e
      go (unsolved n e) = absurd (omega (arith, n w l.fixed))

  pub none_is : (limit : ℕ) → ((v : ℕ) → f v ≡ v → limit < v) → None ≡ least_solution f limit
  none_is limit n = go (least-to limit)
    where
      go : Solved limit → None ≡ least_solution f limit
      go (solved u m k e) = absurd (omega (arith, n u m.fixed))
      go (unsolved m e) = sym e
