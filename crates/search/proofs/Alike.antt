-- What the delays have no part in: the places, the tests, that the legs are placed, and what follows once a leg was tested. In any two
-- nets with the same buses and the same pairs these are the same.
use Rattle.std.proofs.Common.{◌≡◌, ℕ, ◌&&◌, List, [], ◌∷◌, Some, None, Option, sym, refl, ap, ◌∙◌, ap₂}
use Rattle.std.specs.List.{list_all}
use Rattle.search.specs.Net.{Leg, Pair, Net, has}
use Rattle.search.specs.Walk.{partnered, ready}
use Rattle.search.specs.Stored.{
  Ranked,
  Place,
  behind,
  tests,
  ranked_at,
  place_of,
  tests_at,
  Stage,
  testing,
  complete,
  exhausted,
  head_of,
  resume,
  but_for,
  retract,
  upwards,
  try_at,
  start_stage,
  placed,
  is_empty,
  placed_at,
}

-- the net with these buses and pairs in which nothing has a delay
abbrev bare : List (List Leg) → List Pair → Net
bare bs prs = record { buses = bs; delay = λ _ _. None; locals = []; pairs = prs; gateway = 0 }

place-bare : (net : Net) (rs : List Ranked) → place_of net rs ≡ place_of (bare net.buses net.pairs) rs
place-bare net [] = refl
place-bare net (r ∷ rs) = ap (λ (at : Place). ranked_at net at r) (place-bare net rs)

module _ (net other : Net) (buses : net.buses ≡ other.buses) (pairs : net.pairs ≡ other.pairs) where
  same_place : (rs : List Ranked) → place_of net rs ≡ place_of other rs
  same_place rs = place-bare net rs ∙ ap₂ (λ bs prs. place_of (bare bs prs) rs) buses pairs ∙ sym (place-bare other rs)

  pub same-open : (rs : List Ranked) → (place_of net rs).open' ≡ (place_of other rs).open'
  same-open rs = ap (λ (at : Place). at.open') (same_place rs)

  same_tests : (rs : List Ranked) → tests_at net rs ≡ tests_at other rs
  same_tests rs = ap (tests net) (same_place rs) ∙ ap (λ prs. tests (bare [] prs) (place_of other rs)) pairs

  same-placed : (rs : List Ranked) → placed net rs ≡ placed other rs
  same-placed [] = refl
  same-placed (r ∷ rs) = ap₂ (λ (l : List Leg) t. has r.leg l && t) (same-open rs) (same-placed rs)

  pub same-placed_at : (s : Stage) → placed_at net s ≡ placed_at other s
  same-placed_at (testing rs c) = ap₂ (λ (l : List Leg) t. has c l && t) (same-open rs) (same-placed rs)
  same-placed_at (complete rs) = ap₂ (λ (l : List Leg) t. is_empty l && t) (same-open rs) (same-placed rs)
  same-placed_at exhausted = refl

  same-ready : (rs : List Ranked) (x : Leg) → ready net (place_of net rs).delays x ≡ ready other (place_of other rs).delays x
  same-ready rs x = λ i. list_all (partnered (same_place rs i).delays x) (pairs i)

  same-retract : (rs : List Ranked) → retract net rs ≡ retract other rs
  same-retract [] = refl
  same-retract (r ∷ rs) =
      let b = same-retract rs in
      λ i. but_for (same-ready rs r.leg i) (b i) (resume rs (head_of (behind r.leg (same_tests rs i))) (b i))

  same-upwards : (rs : List Ranked) (l : List Leg) → upwards net rs l ≡ upwards other rs l
  same-upwards rs [] = refl
  same-upwards rs (y ∷ l) = λ i. resume rs (head_of (same_tests rs i)) (same-retract rs i)

  same_up : (rs : List Ranked) → upwards net rs (place_of net rs).open' ≡ upwards other rs (place_of other rs).open'
  same_up rs = same-upwards rs (place_of net rs).open' ∙ ap (upwards other rs) (same-open rs)

  pub same_start : start_stage net ≡ start_stage other
  same_start = same_up []

  -- where the test of c has come to the same
  pub same-try : (rs : List Ranked) (c : Leg) (o : Option ℕ) → try_at net rs c o ≡ try_at other rs c o
  same-try rs c None = λ i. resume rs (head_of (behind c (same_tests rs i))) (same-retract rs i)
  same-try rs c (Some d) = same_up (record { leg = c; delay = d } ∷ rs)
