-- The delay of the least solution, in both directions; and that a smaller right side gives no longer a delay.
use Rattle.std.specs.Prelude.{◌≡◌, ℕ, ◌+◌, ◌<◌, ◌≤◌, Some, None, Option}
use Rattle.std.proofs.Common.{sym, ap, ◌∙◌, ⊎_elim, arith}
use Rattle.std.proofs.lemmas.Bool.{cases_lt, cond-true, cond-false, le-leb, lt-leb}
use Rattle.std.proofs.lemmas.Option.{none-some}
use Rattle.bus.specs.Rules.{within}
use Rattle.frames.specs.Least.{Least, least_solution, delay_after, Exact}
use Rattle.frames.specs.First.{Solved, solved, unsolved, least-to}
use Rattle.frames.specs.Rising.{Rises, solution_below}

-- the delay of the least solution of f, where a queuing time w gives the delay before + w + frame
abbrev pub ended : ℕ → ℕ → ℕ → ℕ
ended before frame w = before + w + frame

abbrev pub answered : (ℕ → ℕ) → (ℕ → ℕ) → ℕ → Option ℕ
answered f ends due = delay_after ends due (least_solution f due)

module _ (f : ℕ → ℕ) (before frame due : ℕ) where
  abbrev here : Option ℕ
  here = answered f (ended before frame) due

  -- what came, with why
  pub data Outcome : Type 0 where
    delay : (w : ℕ) → Least f w → before + w + frame ≤ due → here ≡ Some (before + w + frame) → Outcome
    over : ((w : ℕ) → f w ≡ w → due < before + w + frame) → here ≡ None → Outcome

  outcome-of : Solved f due → Outcome
  outcome-of (solved w l h e) =
      let e' : here ≡ within due (before + w + frame) = ap (delay_after (ended before frame) due) e in
      ⊎_elim
      (λ (g : due < before + w + frame).
      over (λ v s. omega (arith, l.least v s)) (e' ∙ cond-false _ _ _ (lt-leb (before + w + frame) due g)))
      (λ (g : before + w + frame ≤ due). delay w l g (e' ∙ cond-true _ _ _ (le-leb (before + w + frame) due g)))
      (cases_lt due (before + w + frame))
  outcome-of (unsolved n e) =
      over (λ v s. omega (arith, n v s)) (ap (delay_after (ended before frame) due) e)

  pub outcome : Outcome
  outcome = outcome-of (least-to f due)

  exact-of : Outcome → Exact f (ended before frame) due here
  exact-of (delay w l h e) = record {
    given = λ d r. let s : before + w + frame ≡ d = cc in (w, l, s, omega arith);
    gives = λ v m k. let s : w ≡ v = omega (arith, l.least v m.fixed, m.least w l.fixed) in e ∙ ap (λ z. Some (before + z + frame)) s;
    over = λ r. absurd (none-some _ (sym r ∙ e));
    passed = λ k. absurd (omega (arith, k w l.fixed));
  }
  exact-of (over n e) = record {
    given = λ d r. absurd (none-some d (sym e ∙ r));
    gives = λ v m k. absurd (omega (arith, n v m.fixed));
    over = λ r. n;
    passed = λ k. e;
  }

  pub exact : Exact f (ended before frame) due here
  exact = exact-of outcome

-- a delay of at most d
abbrev pub Shortened : (ℕ → ℕ) → ℕ → ℕ → ℕ → ℕ → Type 0
Shortened f before frame due d = (e : ℕ) × (answered f (ended before frame) due ≡ Some e) × (e ≤ d)

module _ (f g : ℕ → ℕ) (before frame due d : ℕ) (rises : Rises f) (less : (w : ℕ) → f w ≤ g w) where
  shorten : (w : ℕ) → g w ≡ w → before + w + frame ≤ due → before + w + frame ≤ d → Outcome f before frame due → Shortened f before frame due d
  shorten w s k m (delay u l h e) =
      let b = solution_below f rises w (omega (arith, less w)) in
      (before + u + frame, e, omega (arith, l.least b.0 b.1, b.2))
  shorten w s k m (over n e) =
      let b = solution_below f rises w (omega (arith, less w)) in
      absurd (omega (arith, n b.0 b.1, b.2))

  -- with a right side that is nowhere larger, the delay is no longer
  pub shorter : answered g (ended before frame) due ≡ Some d → Shortened f before frame due d
  shorter e =
      let x = (exact g before frame due).given d e in
      shorten x.0 x.1.fixed (omega (arith, x.2, x.3)) (omega (arith, x.2)) (outcome f before frame due)
