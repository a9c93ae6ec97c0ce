-- The words of a sheet that are not numbers: keywords, kinds of buses, and destinations.
use Rattle.std.specs.Prelude.{ℕ, ◌-◌, ◌^◌, Bool, true, false, cond, ◌&&◌, ◌||◌, List, [], ◌∷◌, map, is_some, Some, None, codes, sum_by, Option, ◌==◌, nat_lt}
use Rattle.bus.specs.Range.{Span, inside}
use Rattle.grammar.specs.Numerals.{is_number}
use Rattle.grammar.specs.Text.{parts, comma, hyphen}
use Rattle.grammar.specs.declared.kind.Kind.{Kind}
use Rattle.grammar.specs.declared.kind.Kind.TheVariants.{Can11, Can29, Fd11}

-- the same bytes
abbrev pub same : List ℕ → List ℕ → Bool
same [] [] = true
same [] (y ∷ ys) = false
same (x ∷ xs) [] = false
same (x ∷ xs) (y ∷ ys) = x == y && same xs ys

abbrev pub is_hyphen : List ℕ → Bool
is_hyphen w = same w (hyphen ∷ [])

-- ---------------------------------------------------------------- kinds
unfoldable pub kind_in : List ℕ → Option Kind
kind_in w =
    cond (same w (codes "can11")) (Some Can11)
    (cond (same w (codes "can29")) (Some Can29) (cond (same w (codes "fd11")) (Some Fd11) None))

abbrev pub is_kind : List ℕ → Bool
is_kind w = is_some (kind_in w)

abbrev pub is_fd : Kind → Bool
is_fd Can11 = false
is_fd Can29 = false
is_fd Fd11 = true

-- the word for the data bit time: a number for CAN FD, else a hyphen; of an unknown kind nothing is asked
abbrev pub is_fast : Option Kind → List ℕ → Bool
is_fast None w = true
is_fast (Some kind) w = cond (is_fd kind) (is_number w) (is_hyphen w)

-- ---------------------------------------------------------------- destinations
-- the digits of the buses 1 to 8
abbrev pub bus_digits : Span
bus_digits = record { low = 49; high = 56 }

-- the bus that one digit names; 0 where it is not one digit from 1 to 8
abbrev pub bus_in : List ℕ → ℕ
bus_in [] = 0
bus_in (c ∷ []) = cond (inside bus_digits c) (c - 48) 0
bus_in (c ∷ d ∷ w) = 0

-- the buses between the commas
abbrev pub buses_in : List ℕ → List ℕ
buses_in w = map bus_in (parts comma w)

-- each is larger than the one before it, and the first than `low`
abbrev pub rises : ℕ → List ℕ → Bool
rises low [] = true
rises low (k ∷ ks) = nat_lt low k && rises k ks

-- a hyphen, or the digits of buses, rising and parted by commas
unfoldable pub is_to : List ℕ → Bool
is_to w = is_hyphen w || rises 0 (buses_in w)

-- the set of the destinations as eight bits, bus k at the value 2^(k-1)
unfoldable pub set_in : List ℕ → ℕ
set_in w = cond (is_hyphen w) 0 (sum_by (λ k. 2 ^ (k - 1)) (buses_in w))
