-- The destinations of a message, from bus 1 to bus 8: a test of its pairs as one of every bus, and the turns of a loop over them.
use Rattle.std.proofs.Common.{◌≡◌, ℕ, suc, ◌+◌, ◌-◌, ◌<◌, ◌≤◌, Bool, true, false, cond, not, ◌&&◌, ◌||◌, List, [], ◌∷◌, map, sym, refl, ap, ◌∙◌, add-one, arith}
use Rattle.std.proofs.lemmas.Bool.{cond-true, cond-false}
use Rattle.std.specs.List.{list_all, filter}
use Rattle.bus.specs.Numbered.{member}
use Rattle.bus.specs.declared.message.Message.{Message}
use Rattle.search.specs.Net.{Pair}
use Rattle.boards.specs.Nets.{bus_numbers, numbers_from, destinations_of, pair_to, pairs_of}

-- ---------------------------------------------------------------- a test of the pairs
-- f at what g makes of the elements that t keeps
list_all-filter : {X Y : Type 0} (f : Y → Bool) (g : X → Y) (t : X → Bool) (xs : List X) →
    list_all (λ x. not (t x) || f (g x)) xs ≡ list_all f (map g (filter t xs))
list_all-filter f g t [] = refl
list_all-filter f g t (x ∷ xs) = go (t x) (list_all-filter f g t xs)
  where
    go : (b : Bool) → list_all (λ y. not (t y) || f (g y)) xs ≡ list_all f (map g (filter t xs)) →
        ((not b || f (g x)) && list_all (λ y. not (t y) || f (g y)) xs) ≡ list_all f (map g (cond b (x ∷ filter t xs) (filter t xs)))
    go true h = ap (λ r. f (g x) && r) h
    go false h = h

-- a test of each pair is one of each bus, where those that are no destination pass
pub pairs_of-by_bus : (f : Pair → Bool) (m : Message) →
    list_all (λ k. not (member m.destinations k) || f (pair_to m k)) (bus_numbers 8) ≡ list_all f (pairs_of m)
pairs_of-by_bus f m = list_all-filter f (pair_to m) (member m.destinations) (bus_numbers 8)

-- ---------------------------------------------------------------- a test of every bus, one bus after another
-- t holds of each bus from i to 8
unfoldable pub from_bus : (ℕ → Bool) → ℕ → Bool
from_bus t i = list_all t (numbers_from i (9 - i))

pub pairs-by_bus : (f : Pair → Bool) (m : Message) → from_bus (λ k. not (member m.destinations k) || f (pair_to m k)) 1 ≡ list_all f (pairs_of m)
unfolding from_bus
pairs-by_bus f m = pairs_of-by_bus f m

-- the numbers from i on, below n
pub numbers_more : (i n : ℕ) → i < n → numbers_from i (n - i) ≡ i ∷ numbers_from (i + 1) (n - (i + 1))
numbers_more i n h =
    let e : n - i ≡ suc (n - (i + 1)) = omega arith in
    ap (numbers_from i) e ∙ ap (λ k. i ∷ numbers_from k (n - (i + 1))) (rw add-one refl)

-- `all` is what the test comes to
module _ (t : ℕ → Bool) (i : ℕ) (all : Bool) where
  turn : i ≤ 8 → from_bus t i ≡ (t i && from_bus t (i + 1))
  unfolding from_bus
  turn h = ap (list_all t) (numbers_more i 9 (omega arith))

  pub bus_passed : i ≤ 8 → t i ≡ true → from_bus t i ≡ all → from_bus t (i + 1) ≡ all
  bus_passed h passed was = sym (turn h ∙ ap (λ b. b && from_bus t (i + 1)) passed) ∙ was

  pub bus_failed : i ≤ 8 → t i ≡ false → from_bus t i ≡ all → false ≡ all
  bus_failed h failed was = sym (turn h ∙ ap (λ b. b && from_bus t (i + 1)) failed) ∙ was

  pub buses-done : 8 < i → from_bus t i ≡ all → true ≡ all
  unfolding from_bus
  buses-done h was = let e : 9 - i ≡ 0 = omega arith in sym (ap (λ n. list_all t (numbers_from i n)) e) ∙ was

-- ---------------------------------------------------------------- a loop over them
-- the destinations from bus i on
unfoldable pub destinations_from : Message → ℕ → List ℕ
destinations_from m i = filter (member m.destinations) (numbers_from i (9 - i))

module _ (m : Message) where
  pub destinations_from-first : destinations_from m 1 ≡ destinations_of m
  unfolding destinations_from
  destinations_from-first = refl

  pub destinations_from-none : (i : ℕ) → 8 < i → destinations_from m i ≡ []
  unfolding destinations_from
  destinations_from-none i h = let e : 9 - i ≡ 0 = omega arith in ap (λ n. filter (member m.destinations) (numbers_from i n)) e

  destinations_from-turn : (i : ℕ) → i ≤ 8 → destinations_from m i ≡ cond (member m.destinations i) (i ∷ destinations_from m (i + 1)) (destinations_from m (i + 1))
  unfolding destinations_from
  destinations_from-turn i h =
      let e : 9 - i ≡ suc (9 - (i + 1)) = omega arith in
      ap (λ n. filter (member m.destinations) (numbers_from i n)) e
      ∙ ap (λ k. filter (member m.destinations) (i ∷ numbers_from k (9 - (i + 1)))) (sym (add-one i))

  pub destinations_from-here : (i : ℕ) → i ≤ 8 → true ≡ member m.destinations i → destinations_from m i ≡ i ∷ destinations_from m (i + 1)
  destinations_from-here i h t = destinations_from-turn i h ∙ cond-true _ _ _ (sym t)

  pub destinations_from-pass : (i : ℕ) → i ≤ 8 → false ≡ member m.destinations i → destinations_from m i ≡ destinations_from m (i + 1)
  destinations_from-pass i h t = destinations_from-turn i h ∙ cond-false _ _ _ (sym t)
