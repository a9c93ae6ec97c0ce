-- The text of a sheet: lines that end in LF, and words parted by one space. A text is a list of bytes.
use Rattle.std.specs.Prelude.{ℕ, ◌-◌, Bool, true, false, cond, List, [], ◌∷◌, Some, None, Option, ◌==◌, slice_index_or}

-- a byte more on the first part
abbrev pub onto : ℕ → List (List ℕ) → List (List ℕ)
onto b [] = (b ∷ []) ∷ []
onto b (p ∷ ps) = (b ∷ p) ∷ ps

-- what stands between the separators: one part more than there are separators
abbrev pub parts : ℕ → List ℕ → List (List ℕ)
parts separator [] = [] ∷ []
parts separator (b ∷ bs) = cond (b == separator) ([] ∷ parts separator bs) (onto b (parts separator bs))

-- LF, a space, a comma and a hyphen
abbrev pub lf : ℕ
lf = 10

abbrev pub space : ℕ
space = 32

abbrev pub comma : ℕ
comma = 44

abbrev pub hyphen : ℕ
hyphen = 45

-- two spaces in a row, and a space at either end, make an empty word
abbrev pub words : List ℕ → List (List ℕ)
words text = parts space text

-- the words of a line count from 1
abbrev pub word_at : List (List ℕ) → ℕ → List ℕ
word_at ws i = slice_index_or ws (i - 1) []

-- a line, and whether it ends in LF
pub record TextLine : Type 0 where
  pub text : List ℕ
  pub ended : Bool

abbrev pub is_empty : List ℕ → Bool
is_empty [] = true
is_empty (b ∷ bs) = false

-- Every part but the last ends in LF. What stands behind the last LF is a line without one, if there is anything.
abbrev pub line_then : List ℕ → List (List ℕ) → List TextLine → List TextLine
line_then p [] rest = cond (is_empty p) [] (record { text = p; ended = false } ∷ [])
line_then p (q ∷ ps) rest = record { text = p; ended = true } ∷ rest

abbrev pub lines_in : List (List ℕ) → List TextLine
lines_in [] = []
lines_in (p ∷ ps) = line_then p ps (lines_in ps)

abbrev pub lines_of : List ℕ → List TextLine
lines_of text = lines_in (parts lf text)

-- the lines of a sheet count from 1
abbrev pub line_at : List TextLine → ℕ → Option TextLine
line_at [] i = None
line_at (l ∷ ls) i = cond (i == 1) (Some l) (line_at ls (i - 1))
