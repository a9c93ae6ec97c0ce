-- A run of n tries makes n, or as many as are to come, and leaves the rest to come.
use Rattle.std.proofs.Common.{◌≡◌, ℕ, zero, suc, min, sym, refl, ap, ◌∙◌, arith}
use Rattle.search.specs.Net.{Net}
use Rattle.search.specs.Walk.{Walked, tick}
use Rattle.search.specs.Machine.{State, going, ended, to_come, step, run, left_after, Runs, RunMakesWhatIsLeft}
use Rattle.search.proofs.Machine.{same-walked, one_try_less}

-- where no try is made, all is left
left_after-none : (n : ℕ) (r : Walked) → min n r.tries ≡ 0 → r ≡ left_after n r
left_after-none n r none = same-walked _ _ (omega arith) refl

left_after-tick : (n : ℕ) (r : Walked) → left_after n r ≡ left_after (suc n) (tick r)
left_after-tick n r = same-walked _ _ (omega arith) refl

-- r is to come before a try, and s stands after it
run-one_more : (net : Net) (n : ℕ) (r : Walked) (s : State) → r ≡ tick (to_come net s) → Runs net n s →
    (suc (run net n s).made ≡ min (suc n) r.tries) × (to_come net (run net n s).stands ≡ left_after (suc n) r)
run-one_more net n r s e h = (
  omega (arith, h.made, ap (λ (w : Walked). w.tries) e),
  h.leaves ∙ left_after-tick n (to_come net s) ∙ ap (left_after (suc n)) (sym e),
)

pub run-makes_what_is_left : RunMakesWhatIsLeft
run-makes_what_is_left net zero s = record { made = omega arith; leaves = left_after-none 0 (to_come net s) (omega arith) }
run-makes_what_is_left net (suc n) (ended o) =
    record { made = omega arith; leaves = left_after-none (suc n) (to_come net (ended o)) (omega arith) }
run-makes_what_is_left net (suc n) (going fs p l ls c cs) =
    let s = step net (going fs p l ls c cs) in
    let h = run-one_more net n _ s (one_try_less net fs p l ls c cs) (run-makes_what_is_left net n s) in
    record { made = h.0; leaves = h.1 }
