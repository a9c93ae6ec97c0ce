-- Tries given in several calls: what they leave of a walk, and what a try call answers then.
use Rattle.std.proofs.Common.{◌≡◌, ℕ, ◌+◌, ◌-◌, min, Bool, true, false, cond, eqb, leb, List, Some, None, Option, refl, ap, arith}
use Rattle.std.proofs.lemmas.Bool.Decides.{nat_tests}
use Rattle.search.specs.Net.{Leg}
use Rattle.search.specs.Machine.{left_after}
use Rattle.search.specs.Walk.{Walked}
use Rattle.planner.specs.Standing.{end_of, progress_of}
use Rattle.planner.specs.declared.progress.Progress.TheVariants.{Nothing, GoingOn}

pub left_after-more : (n k : ℕ) (w : Walked) → left_after k (left_after n w) ≡ left_after (n + k) w
left_after-more n k w =
    let e : w.tries - min n w.tries - min k (w.tries - min n w.tries) ≡ w.tries - min (n + k) w.tries = omega arith in
    λ i. record { tries = e i; outcome = w.outcome }

-- after n tries and then k
pub progress_of-left_after : (n k : ℕ) (w : Walked) → progress_of (left_after k (left_after n w)) ≡ cond (leb w.tries (n + k)) (end_of w.outcome) GoingOn
progress_of-left_after n k w =
    let e : eqb (w.tries - min n w.tries - min k (w.tries - min n w.tries)) 0 ≡ leb w.tries (n + k) = grind (arith, nat_tests) in
    ap (λ t. cond t (end_of w.outcome) GoingOn) e

pub left_after-tries : (n k : ℕ) (w : Walked) → min k (left_after n w).tries ≡ min (n + k) w.tries - min n w.tries
left_after-tries n k w = omega arith

-- which end it was
pub end_of-nothing : (t : Bool) (o : Option (List (List Leg))) → cond t (end_of o) GoingOn ≡ Nothing → o ≡ None
end_of-nothing true None e = refl
end_of-nothing true (Some os) e = absurd (cc)
end_of-nothing false o e = absurd (cc)

pub end_of-not_going_on : (o : Option (List (List Leg))) → end_of o ≡ GoingOn → ⊥
end_of-not_going_on None e = cc
end_of-not_going_on (Some os) e = cc
