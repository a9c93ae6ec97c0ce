-- Where the stored walk is over, and what it has come to.
use Rattle.std.proofs.Common.{◌≡◌, true, List, [], ◌∷◌, Some, refl, ap, arith}
use Rattle.std.proofs.lemmas.Bool.{false≢true}
use Rattle.search.specs.Net.{Leg, Net}
use Rattle.search.specs.Walk.{Walked}
use Rattle.search.specs.Stored.{
  Ranked,
  place_of,
  testing,
  complete,
  exhausted,
  state_of,
  placed,
  is_empty,
  placed_at,
  OverWhereNoTryIsLeft,
  CompleteHasItsOrders,
}
use Rattle.search.proofs.Machine.{ended-where_no_try_is_left}
use Rattle.search.proofs.Filled.{orders-as_stored}

pub over_where_no_try_is_left : OverWhereNoTryIsLeft
over_where_no_try_is_left net (testing rs c) = ended-where_no_try_is_left net (state_of net (testing rs c))
over_where_no_try_is_left net (complete rs) = ((λ _. refl), λ _. refl)
over_where_no_try_is_left net exhausted = ((λ _. refl), λ _. refl)

empty_is : (l : List Leg) → is_empty l ≡ true → l ≡ []
empty_is [] h = refl
empty_is (x ∷ l) h = absurd (false≢true h)

-- the parts of what is placed where all legs are ranked
module _ (net : Net) (rs : List Ranked) (h : placed_at net (complete rs) ≡ true) where
  complete_placed : placed net rs ≡ true
  complete_placed = grind arith

  pub complete_open : (place_of net rs).open' ≡ []
  complete_open = empty_is (place_of net rs).open' (grind arith)

pub complete_has_its_orders : CompleteHasItsOrders
complete_has_its_orders net a rs h =
    ap (λ (os : List (List Leg)). let w : Walked = record { tries = 0; outcome = Some os } in w)
    (orders-as_stored net a rs (complete_placed net rs h) (complete_open net rs h))
