-- The tests of a leg look only at the pairs that touch it.
use Rattle.std.proofs.Common.{◌≡◌, ℕ, Bool, not, ◌&&◌, ◌||◌, List, [], ◌∷◌, refl, arith}
use Rattle.std.specs.List.{list_all, filter}
use Rattle.search.specs.Net.{Leg, Net, touches, Delays}
use Rattle.search.specs.Deadlines.{met}
use Rattle.search.specs.Walk.{counted, passes, known, ready}

-- what is asked only of the elements that t passes
every-own : {X : Type 0} (t f : X → Bool) (xs : List X) → list_all (λ x. not (t x) || f x) xs ≡ list_all f (filter t xs)
every-own t f [] = refl
every-own t f (x ∷ xs) = grind (arith, every-own t f xs)

module _ (net : Net) (p : Delays) (x : Leg) where
  pub ready-own : ready net p x ≡ list_all (λ pr. known p x pr.source && known p x pr.destination) (filter (touches x) net.pairs)
  ready-own = every-own (touches x) (λ pr. known p x pr.source && known p x pr.destination) net.pairs

  pub passes-own : (d : ℕ) → list_all (passes net p x d) net.pairs ≡ list_all (met net (counted net p x d)) (filter (touches x) net.pairs)
  passes-own d = every-own (touches x) (met net (counted net p x d)) net.pairs
