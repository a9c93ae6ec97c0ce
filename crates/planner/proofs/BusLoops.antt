-- The buses from bus i to bus n, one after another.
use Rattle.std.proofs.Common.{◌≡◌, ℕ, ◌+◌, ◌-◌, ◌<◌, ◌≤◌, Bool, ◌&&◌, List, [], ◌∷◌, sym, ap, ◌∙◌, arith}
use Rattle.std.specs.List.{list_all}
use Rattle.boards.specs.Nets.{numbers_from}
use Rattle.planner.proofs.Destinations.{numbers_more}

-- the buses from i to n
unfoldable pub buses_to : ℕ → ℕ → List ℕ
buses_to n i = numbers_from i (n + 1 - i)

pub buses-first : (n : ℕ) → buses_to n 1 ≡ numbers_from 1 n
unfolding buses_to
buses-first n = let e : n + 1 - 1 ≡ n = omega arith in ap (numbers_from 1) e

pub buses-more : (n i : ℕ) → i ≤ n → buses_to n i ≡ i ∷ buses_to n (i + 1)
unfolding buses_to
buses-more n i h = numbers_more i (n + 1) (omega arith)

pub buses-done : (n i : ℕ) → n < i → buses_to n i ≡ []
unfolding buses_to
buses-done n i h = let e : n + 1 - i ≡ 0 = omega arith in ap (numbers_from i) e

-- one bus more, whose test came to t
turn : (f : ℕ → Bool) (n i : ℕ) (t all : Bool) → i ≤ n → t ≡ f i → list_all f (buses_to n i) ≡ all → (t && list_all f (buses_to n (i + 1))) ≡ all
turn f n i t all h e inv = ap (λ u. u && list_all f (buses_to n (i + 1))) e ∙ sym (ap (list_all f) (buses-more n i h)) ∙ inv
