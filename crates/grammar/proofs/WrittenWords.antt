-- Numbers, kinds and destinations, written as words, are read back.
use Rattle.std.proofs.Common.{◌≡◌, ℕ, ◌^◌, ◌<◌, ◌≤◌, Bool, true, false, not, ◌&&◌, eqb, leb, List, [], ◌∷◌, length, get_or, Some, decimal, refl, ap, ◌∙◌, inl, inr, arith, rules}
use Rattle.std.specs.Str.{all_ascii_digits}
use Rattle.std.proofs.lemmas.Fmt.{digits_decimal, digits_value-decimal, length-decimal-le, decimal_nonempty, decimal_digit, first_decimal}
use Rattle.std.proofs.lemmas.Str.Parse.{IsNumeralModel, numerals_by_fold, tells_all_ascii_digits}
use Rattle.std.proofs.lemmas.Bool.{and_from, le-leb, ne_eqb, cases_eq}
use Rattle.std.proofs.lemmas.Bool.Decides.{nat_tests}
use Rattle.bus.specs.Numbered.{member}
use Rattle.search.proofs.Lists.{list_all-at}
use Rattle.boards.proofs.Elements.{numbers-among}
use Rattle.std.specs.List.{list_all}
use Rattle.boards.specs.Nets.{numbers_from}
use Rattle.grammar.specs.Numerals.{read_on, number_in, leads_with_zero, is_number}
use Rattle.grammar.specs.Text.{space}
use Rattle.grammar.specs.Words.{kind_in, is_to, set_in}
use Rattle.grammar.specs.Written.{kind_text, to_text}
use Rattle.grammar.specs.declared.kind.Kind.{Kind}
use Rattle.grammar.specs.declared.kind.Kind.TheVariants.{Can11, Can29, Fd11}
use Rattle.grammar.proofs.WrittenText.{above}

-- ---------------------------------------------------------------- numbers
-- the numbers that a sheet can hold
abbrev pub Short : ℕ → Type 0
Short n = n < 10 ^ 11

own : IsNumeralModel (λ ds. all_ascii_digits ds ≡ true) number_in
own = numerals_by_fold _ tells_all_ascii_digits read_on (search rules)

digits_above : (w : List ℕ) → all_ascii_digits w ≡ true → above space w ≡ true
digits_above [] h = refl
digits_above (c ∷ w) h = grind (arith, nat_tests, tells_all_ascii_digits.parts c w h, digits_above w)

no_zero : (n : ℕ) → Short n → leads_with_zero (decimal n) ≡ false
no_zero n short =
    elim (cases_eq n 0) [
      | inl e ↦ ap leads_with_zero (ap decimal e ∙ decimal_digit 0 (omega arith))
      | inr some ↦ rw (ne_eqb (get_or (decimal n) 0 0) 48 (λ e. omega (arith, first_decimal n (omega arith) (omega arith))))
    ]

-- what a word for a number has to be
pub record NumberWord (n : ℕ) (w : List ℕ) : Type 0 where
  pub is : is_number w ≡ true
  pub back : number_in w ≡ n
  pub clear : above space w ≡ true
  pub long : length w ≤ 11

pub number_word : (n : ℕ) → Short n → NumberWord n (decimal n)
unfolding is_number
number_word n short =
    let wide : n < 2 ^ 64 = omega arith in
    let digits = digits_decimal own n wide in
    let long = length-decimal-le 11 n (omega arith) short wide in
    record {
      is =
          and_from _ _ digits
          (and_from _ _ (and_from _ _ (le-leb _ _ (decimal_nonempty n wide)) (le-leb _ _ long)) (ap not (no_zero n short)));
      back = digits_value-decimal own n wide;
      clear = digits_above (decimal n) digits;
      long = long;
    }

-- ---------------------------------------------------------------- kinds
-- what a word for a kind has to be
pub record KindWord (k : Kind) (w : List ℕ) : Type 0 where
  pub back : kind_in w ≡ Some k
  pub clear : above space w ≡ true
  pub long : length w ≤ 5

pub kind_word : (k : Kind) → KindWord k (kind_text k)
unfolding kind_in
kind_word Can11 = record { back = refl; clear = refl; long = omega arith }
kind_word Can29 = record { back = refl; clear = refl; long = omega arith }
kind_word Fd11 = record { back = refl; clear = refl; long = omega arith }

-- ---------------------------------------------------------------- destinations
-- what is claimed of the word of a set, as a test
abbrev read_back : ℕ → Bool
read_back set =
    let w = to_text set in
    is_to w && (eqb (set_in w) set && (above space w && leb (length w) 15))

all-read_back : list_all read_back (numbers_from 0 256) ≡ true
unfolding is_to set_in member
all-read_back = refl

-- what a word for a set has to be
pub record SetWord (set : ℕ) (w : List ℕ) : Type 0 where
  pub is : is_to w ≡ true
  pub back : set_in w ≡ set
  pub clear : above space w ≡ true
  pub long : length w ≤ 15

pub set_word : (set : ℕ) → set < 2 ^ 8 → SetWord set (to_text set)
set_word set eight =
    let fact = list_all-at read_back set (numbers_from 0 256) all-read_back (numbers-among set 0 256 (omega arith) (omega arith)) in
    record {
      is = grind (arith, fact);
      back = grind (arith, nat_tests, fact);
      clear = grind (arith, fact);
      long = grind (arith, nat_tests, fact);
    }
