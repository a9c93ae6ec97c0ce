-- Whether the walk of a board has ended with found, by its stage.
use Rattle.std.proofs.Common.{◌≡◌, true, false, eqb, List, Some, None, sym, ap, ◌∙◌}
use Rattle.std.proofs.lemmas.Bool.{ne_eqb, cond-true, cond-false, false≢true}
use Rattle.search.specs.Net.{Leg}
use Rattle.search.specs.Stored as walk
use Rattle.search.proofs.Over.{over_where_no_try_is_left, complete_has_its_orders}
use Rattle.search.proofs.Stored.{first-stage_has_all}
use Rattle.boards.specs.Boards.{Board, Sound}
use Rattle.boards.specs.Nets.{net_of}
use Rattle.boards.proofs.Lawful.{board-lawful}
use Rattle.planner.specs.Refusing.{is_none}
use Rattle.planner.specs.Standing.{Standing, found_orders}
use Rattle.planner.proofs.Begins.{not_ended}

module _ (b : Board) where
  abbrev pub at : walk.Stage → Standing
  at s = record { board = b; left = walk.left (net_of b) s }

  -- no messages
  pub found_orders-without : (s : walk.Stage) → is_none b.messages ≡ true → found_orders (at s) ≡ None
  found_orders-without s e = cond-true (is_none b.messages) None _ e

  found_orders-going : (s : walk.Stage) → is_none b.messages ≡ false → ((walk.left (net_of b) s).tries ≡ 0 → ⊥) → found_orders (at s) ≡ None
  found_orders-going s e n = cond-false (is_none b.messages) None _ e ∙ cond-false (eqb (walk.left (net_of b) s).tries 0) _ None (ne_eqb _ 0 n)

  pub found_orders-testing : (rs : List walk.Ranked) (c : Leg) → is_none b.messages ≡ false → found_orders (at (walk.testing rs c)) ≡ None
  found_orders-testing rs c e =
      found_orders-going (walk.testing rs c) e (λ z. false≢true ((over_where_no_try_is_left (net_of b) (walk.testing rs c)).1 z))

  pub found_orders-at_start : Sound b → is_none b.messages ≡ false → found_orders (at (walk.start_stage (net_of b))) ≡ None
  found_orders-at_start sound e =
      found_orders-going (walk.start_stage (net_of b)) e (λ z. not_ended b sound e (ap (λ w. w.tries) (sym (first-stage_has_all (net_of b))) ∙ z))

  pub found_orders-exhausted : is_none b.messages ≡ false → found_orders (at walk.exhausted) ≡ None
  found_orders-exhausted e = cond-false (is_none b.messages) None _ e

  pub found_orders-complete : Sound b → is_none b.messages ≡ false → (rs : List walk.Ranked) → walk.placed_at (net_of b) (walk.complete rs) ≡ true →
      found_orders (at (walk.complete rs)) ≡ Some (walk.orders_of (net_of b) rs)
  found_orders-complete sound e rs placed =
      cond-false (is_none b.messages) None _ e
      ∙ ap (λ w. w.outcome) (complete_has_its_orders (net_of b) (board-lawful b sound).apart rs placed)
