-- The published bounds on the number of tries.
use Rattle.std.specs.Prelude.{ℕ, zero, suc, ◌+◌, ◌*◌, ◌/◌, List, [], ◌∷◌, length}
use Rattle.search.specs.Net.{Leg}

-- a bus of n legs, where what comes after it takes at most x tries
abbrev pub F : ℕ → ℕ → ℕ
F zero x = x
F (suc n) x = suc n * (1 + F n x)

-- the buses from the last to the first, from 0
abbrev pub bound : List (List Leg) → ℕ
bound [] = 0
bound (l ∷ ls) = F (length l) (bound ls)

-- where no message crosses: n(n+1)/2 added over the buses
abbrev pub local_bound : List (List Leg) → ℕ
local_bound [] = 0
local_bound (l ∷ ls) = (length l * suc (length l)) / 2 + local_bound ls
