-- What every stage of the walk keeps: what holds of ranked legs where each was open at its place and fitted there.
use Rattle.std.proofs.Common.{◌≡◌, ℕ, zero, suc, Bool, true, false, List, [], ◌∷◌, Some, None, Option, sym, refl, ◌∙◌, arith}
use Rattle.std.proofs.lemmas.Bool.Decides.{nat_tests}
use Rattle.search.specs.Net.{Leg, Net, has}
use Rattle.search.specs.Walk.{fit, ready}
use Rattle.search.specs.Stored.{Ranked, behind, place_of, tests_at, Stage, testing, complete, exhausted, head_of, resume, but_for, retract, upwards, try_at, try_once, try_up_to, kept, standing, placed, Keeps, EveryStageIsKept}
use Rattle.search.proofs.Legs.{same-itself, has-candidates}
use Rattle.search.proofs.Behind.{behind-has}
use Rattle.search.proofs.Place.{kept-below, placed_below}

-- the tests at a place are of legs that are open there
tests-open : (net : Net) (rs : List Ranked) (x : Leg) → has x (tests_at net rs) ≡ true → has x (place_of net rs).open' ≡ true
tests-open net rs x h = sym (has-candidates net (place_of net rs).delays x (place_of net rs).open') ∙ h

-- k holds of the ranked legs below each ranked leg, and of them with a leg more that was open
module _ (net : Net) (k : List Ranked → Bool) (below : (r : Ranked) (rs : List Ranked) → k (r ∷ rs) ≡ true → k rs ≡ true) where
  resume-kept : (rs : List Ranked) (cs : List Leg) (b : Stage) → k rs ≡ true →
      ((x : Leg) → has x cs ≡ true → has x (tests_at net rs) ≡ true) → standing net k b ≡ true → standing net k (resume rs (head_of cs) b) ≡ true
  resume-kept rs [] b h among e = e
  resume-kept rs (c ∷ cs) b h among e = grind (arith, tests-open net rs c, among c, same-itself c)

  resume-behind_kept : (rs : List Ranked) (c : Leg) (b : Stage) → k rs ≡ true → standing net k b ≡ true →
      standing net k (resume rs (head_of (behind c (tests_at net rs))) b) ≡ true
  resume-behind_kept rs c b h e = resume-kept rs (behind c (tests_at net rs)) b h (λ x m. behind-has c x (tests_at net rs) m) e

  but_for-kept : (t : Bool) (b s : Stage) → standing net k b ≡ true → standing net k s ≡ true → standing net k (but_for t b s) ≡ true
  but_for-kept true b s e f = e
  but_for-kept false b s e f = f

  retract-kept : (rs : List Ranked) → k rs ≡ true → standing net k (retract net rs) ≡ true
  retract-kept [] h = refl
  retract-kept (r ∷ rs) h =
      let back = retract-kept rs (below r rs h) in
      but_for-kept (ready net (place_of net rs).delays r.leg) (retract net rs) _ back
      (resume-behind_kept rs r.leg (retract net rs) (below r rs h) back)

  upwards-kept : (rs : List Ranked) (l : List Leg) → (place_of net rs).open' ≡ l → k rs ≡ true → standing net k (upwards net rs l) ≡ true
  upwards-kept rs [] e h = grind arith
  upwards-kept rs (y ∷ l) e h = resume-kept rs (tests_at net rs) (retract net rs) h (λ x m. m) (retract-kept rs h)

  module _ (more : (rs : List Ranked) (c : Leg) (d : ℕ) → fit net (place_of net rs).delays (place_of net rs).open' c ≡ Some d →
      has c (place_of net rs).open' ≡ true → k rs ≡ true → k (record { leg = c; delay = d } ∷ rs) ≡ true) where
    try_kept : (rs : List Ranked) (c : Leg) (o : Option ℕ) → fit net (place_of net rs).delays (place_of net rs).open' c ≡ o →
        has c (place_of net rs).open' ≡ true → k rs ≡ true → standing net k (try_at net rs c o) ≡ true
    try_kept rs c None e on h = resume-behind_kept rs c (retract net rs) h (retract-kept rs h)
    try_kept rs c (Some d) e on h =
        let up : Ranked = record { leg = c; delay = d } in
        upwards-kept (up ∷ rs) (place_of net (up ∷ rs)).open' refl (more rs c d e on h)

    once_kept : (s : Stage) → standing net k s ≡ true → standing net k (try_once net s) ≡ true
    once_kept (testing rs c) h = try_kept rs c (fit net (place_of net rs).delays (place_of net rs).open' c) refl (grind arith) (grind arith)
    once_kept (complete rs) h = h
    once_kept exhausted h = h

    run-kept : (n : ℕ) (s : Stage) → standing net k s ≡ true → standing net k (try_up_to net n s).stage ≡ true
    run-kept zero s h = h
    run-kept (suc n) (testing rs c) h = run-kept n (try_once net (testing rs c)) (once_kept (testing rs c) h)
    run-kept (suc n) (complete rs) h = h
    run-kept (suc n) exhausted h = h

    keeps : k [] ≡ true → Keeps net (standing net k)
    keeps h = record { first = upwards-kept [] (place_of net []).open' refl h; once = once_kept; run = run-kept }

module _ (net : Net) (rs : List Ranked) (c : Leg) (d : ℕ) where
  kept_more : fit net (place_of net rs).delays (place_of net rs).open' c ≡ Some d → has c (place_of net rs).open' ≡ true →
      kept net rs ≡ true → kept net (record { leg = c; delay = d } ∷ rs) ≡ true
  kept_more e on h = grind (arith, nat_tests)

  pub placed-more : has c (place_of net rs).open' ≡ true → placed net rs ≡ true → placed net (record { leg = c; delay = d } ∷ rs) ≡ true
  placed-more on h = grind arith

pub every_stage_is_kept : EveryStageIsKept
every_stage_is_kept net = (
  keeps net (kept net) (kept-below net) (kept_more net) refl,
  keeps net (placed net) (placed_below net) (λ rs c d e. placed-more net rs c d) refl,
)
