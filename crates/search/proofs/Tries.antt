-- A run of n tries on what is stored is the machine's run of n, and so makes n tries, or as many as are to come.
use Rattle.std.proofs.Common.{◌≡◌, ℕ, zero, suc, refl, ap, ◌∙◌}
use Rattle.search.specs.Net.{Net}
use Rattle.search.specs.Machine.{Ran, one_more, run, to_come}
use Rattle.search.specs.Stored.{Stage, testing, complete, exhausted, try_once, Tried, try_up_to, state_of, Distinct, TriesMakeWhatIsLeft}
use Rattle.search.proofs.Run.{run-makes_what_is_left}
use Rattle.search.proofs.Stored.{try_is_a_step}

-- the machine's run that a run of tries is
abbrev ran_of : Net → Tried → Ran
ran_of net t = record { made = t.made; stands = state_of net t.stage }

tries-run : (net : Net) → Distinct net → (n : ℕ) (s : Stage) → ran_of net (try_up_to net n s) ≡ run net n (state_of net s)
tries-run net once zero s = refl
tries-run net once (suc n) (complete rs) = refl
tries-run net once (suc n) exhausted = refl
tries-run net once (suc n) (testing rs c) =
    ap one_more (tries-run net once n (try_once net (testing rs c)) ∙ ap (run net n) (try_is_a_step net once (testing rs c)))

pub tries-make_what_is_left : TriesMakeWhatIsLeft
tries-make_what_is_left net once n s =
    let e = tries-run net once n s in
    let h = run-makes_what_is_left net n (state_of net s) in
    record {
      made = ap (λ (r : Ran). r.made) e ∙ h.made;
      leaves = ap (λ (r : Ran). to_come net r.stands) e ∙ h.leaves;
    }
