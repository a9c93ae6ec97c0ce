-- A try call, by the stages before and after it, as a log has it.
use Rattle.std.proofs.Common.{◌≡◌, ℕ, min, false, eqb, List, None, sym, refl, ap, ◌∙◌, arith}
use Rattle.std.proofs.lemmas.Bool.{ne_eqb, cond-false, false≢true}
use Rattle.std.proofs.lemmas.Bool.Decides.{nat_tests}
use Rattle.bus.specs.declared.message.Message.{Message}
use Rattle.search.specs.Machine.{left_after}
use Rattle.search.specs.Net.{Net}
use Rattle.search.specs.Stored as walk
use Rattle.search.specs.Walk.{Walked, walk as walks}
use Rattle.search.proofs.Stored.{first-stage_has_all}
use Rattle.search.proofs.Over.{over_where_no_try_is_left}
use Rattle.search.proofs.Tries.{tries-make_what_is_left}
use Rattle.boards.specs.Boards.{Board, Sound}
use Rattle.boards.specs.Nets.{net_of}
use Rattle.boards.proofs.BoardLaws.{legs_distinct}
use Rattle.planner.specs.Logs.{tried, attempt, Gives}
use Rattle.planner.specs.Refusing.{try_fault, is_none}
use Rattle.planner.specs.Standing.{end_of, progress_of}
use Rattle.planner.specs.Stages.{stage_of, progress_by}
use Rattle.planner.specs.declared.progress.Progress.{Progress}
use Rattle.planner.specs.declared.progress.Progress.TheVariants.{Found, Nothing, GoingOn}
use Rattle.planner.specs.declared.ranked.Ranked.{Ranked}
use Rattle.planner.specs.declared.stage.Stage.{Stage}
use Rattle.planner.specs.declared.stage.Stage.TheVariants.{Start, Testing, Complete, Exhausted}
use Rattle.planner.proofs.Begins.{not_ended}
use Rattle.planner.proofs.FreshBoards.{Unless-none}

-- how far the walk has come, by its stage
abbrev progress_at : walk.Stage → Progress
progress_at (walk.testing rs c) = GoingOn
progress_at (walk.complete rs) = Found
progress_at walk.exhausted = Nothing

progress_of-left : (net : Net) (s : walk.Stage) → progress_of (walk.left net s) ≡ progress_at s
progress_of-left net (walk.testing rs c) =
    cond-false (eqb (walk.left net (walk.testing rs c)).tries 0) (end_of (walk.left net (walk.testing rs c)).outcome) GoingOn
    (ne_eqb _ 0 (λ e. false≢true ((over_where_no_try_is_left net (walk.testing rs c)).1 e)))
progress_of-left net (walk.complete rs) = refl
progress_of-left net walk.exhausted = refl

-- ---------------------------------------------------------------- what a try call tests
tried-some : (ms : List Message) (n : ℕ) → try_fault ms n ≡ None → is_none ms ≡ false
tried-some ms n e = grind (arith, nat_tests)

module _ (b : Board) (sound : Sound b) where
  -- what a try call answers of its stage; at the start the walk of a board with messages has not ended
  progress_by-stage : is_none b.messages ≡ false → (rs : List Ranked) (s : Stage) → progress_by s ≡ progress_at (stage_of (net_of b) rs s)
  progress_by-stage some rs Start =
      sym
      (sym (progress_of-left (net_of b) (walk.start_stage (net_of b)))
      ∙ ap progress_of (first-stage_has_all (net_of b))
      ∙ cond-false (eqb (walks (net_of b)).tries 0) (end_of (walks (net_of b)).outcome) GoingOn (ne_eqb _ 0 (not_ended b sound some)))
  progress_by-stage some rs (Testing x) = refl
  progress_by-stage some rs Complete = refl
  progress_by-stage some rs Exhausted = refl

  -- k tries, n as the call has them, were made from the stage s, and led to the stage t
  pub Gives-attempt : (n k : ℕ) → k ≡ n → try_fault b.messages n ≡ None → (s : walk.Stage) (rs : List Ranked) (t : Stage) (made : ℕ) (p : Progress) →
      stage_of (net_of b) rs t ≡ (walk.try_up_to (net_of b) k s).stage → made ≡ (walk.try_up_to (net_of b) k s).made → p ≡ progress_by t →
      Gives (record { board = b; left = walk.left (net_of b) s }) (attempt n) (tried p made)
      (record { board = b; left = walk.left (net_of b) (stage_of (net_of b) rs t) })
  Gives-attempt n k same none s rs t made p to count is =
      let net = net_of b in
      let runs = tries-make_what_is_left net (legs_distinct b sound) k s in
      let after : Walked = left_after n (walk.left net s) in
      let leaves : walk.left net (stage_of net rs t) ≡ after =
      ap (walk.left net) to ∙ runs.leaves ∙ ap (λ (j : ℕ). left_after j (walk.left net s)) same in
      let told : p ≡ progress_of after =
      is ∙ progress_by-stage (tried-some b.messages n none) rs t ∙ sym (progress_of-left net (stage_of net rs t)) ∙ ap progress_of leaves in
      Unless-none (try_fault b.messages n) _ _ _ _ none (
        ap (λ q. tried q made) told ∙ ap (tried (progress_of after)) (count ∙ runs.made ∙ ap (λ (j : ℕ). min j (walk.left net s).tries) same),
        λ i. record { board = b; left = leaves i },
      )
