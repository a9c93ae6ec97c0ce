-- Numbers in decimal, as sheets have them.
use Rattle.std.specs.Prelude.{ℕ, ◌+◌, ◌-◌, ◌*◌, Bool, not, ◌&&◌, List, [], ◌∷◌, length, ◌==◌, nat_lt, slice_index}
use Rattle.std.specs.Str.{all_ascii_digits}
use Rattle.bus.specs.Range.{Span, inside}

-- the number that digits write, after n
abbrev pub read_on : ℕ → List ℕ → ℕ
read_on n [] = n
read_on n (c ∷ cs) = read_on (10 * n + (c - 48)) cs

abbrev pub number_in : List ℕ → ℕ
number_in w = read_on 0 w

abbrev pub digit_counts : Span
digit_counts = record { low = 1; high = 11 }

-- a zero in front of other digits
abbrev pub leads_with_zero : List ℕ → Bool
leads_with_zero w = slice_index w 0 == 48 && nat_lt 1 (length w)

-- one to eleven digits, no sign, no leading zero
unfoldable pub is_number : List ℕ → Bool
is_number w = all_ascii_digits w && (inside digit_counts (length w) && not (leads_with_zero w))
