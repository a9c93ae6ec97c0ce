-- Words put into a line, and lines put into a text, come out again as they were.
use Rattle.std.proofs.Common.{◌≡◌, ℕ, ◌<◌, Bool, true, ltb, List, [], ◌∷◌, ◌++◌, refl, ap, ◌∙◌, arith}
use Rattle.std.proofs.lemmas.List.{append_assoc, append-nil}
use Rattle.std.proofs.lemmas.Bool.{and_parts, and_from}
use Rattle.std.proofs.lemmas.Bool.Decides.{nat_tests}
use Rattle.std.proofs.lemmas.List.Folds.{list_all-append}
use Rattle.std.specs.List.{list_all}
use Rattle.grammar.specs.Text.{parts, lf, space, words, TextLine, line_then, lines_of, lines_in}
use Rattle.grammar.specs.Written.{behind_first, between, line_text}

-- every byte is above s
abbrev pub above : ℕ → List ℕ → Bool
above s w = list_all (ltb s) w

-- the words keep clear of the space, and so of LF
abbrev pub clear : List (List ℕ) → Bool
clear ws = list_all (above space) ws

above_lower : (s t : ℕ) (w : List ℕ) → s < t → above t w ≡ true → above s w ≡ true
above_lower s t [] low h = refl
above_lower s t (b ∷ w) low h = grind (arith, nat_tests, above_lower s t w)

-- ---------------------------------------------------------------- parts
parts_first : (s : ℕ) (w rest : List ℕ) → above s w ≡ true → parts s (w ++ s ∷ rest) ≡ w ∷ parts s rest
parts_first s [] rest h = grind (arith, nat_tests)
parts_first s (b ∷ w) rest h = grind (arith, nat_tests, parts_first s w rest)

parts_last : (s : ℕ) (w : List ℕ) → above s w ≡ true → parts s w ≡ w ∷ []
parts_last s [] h = refl
parts_last s (b ∷ w) h = grind (arith, nat_tests, parts_last s w)

parts-behind : (s : ℕ) (w : List ℕ) (ws : List (List ℕ)) → list_all (above s) (w ∷ ws) ≡ true → parts s (w ++ behind_first s ws) ≡ w ∷ ws
parts-behind s w [] h = ap (parts s) (append-nil w) ∙ parts_last s w (and_parts (above s w) true h).0
parts-behind s w (v ∷ ws) h =
    let both = and_parts (above s w) (list_all (above s) (v ∷ ws)) h in
    parts_first s w (v ++ behind_first s ws) both.0 ∙ ap (λ ps. w ∷ ps) (parts-behind s v ws both.1)

pub words-between : (w : List ℕ) (ws : List (List ℕ)) → clear (w ∷ ws) ≡ true → words (between space (w ∷ ws)) ≡ w ∷ ws
words-between w ws h = parts-behind space w ws h

-- ---------------------------------------------------------------- lines
-- the line of these words
abbrev pub line_of : List (List ℕ) → TextLine
line_of ws = record { text = between space ws; ended = true }

behind-above : (ws : List (List ℕ)) → clear ws ≡ true → above lf (behind_first space ws) ≡ true
behind-above [] h = refl
behind-above (w ∷ ws) h =
    let both = and_parts (above space w) (clear ws) h in
    list_all-append (ltb lf) w (behind_first space ws)
    ∙ and_from _ _ (above_lower lf space w (omega arith) both.0) (behind-above ws both.1)

between-above : (ws : List (List ℕ)) → clear ws ≡ true → above lf (between space ws) ≡ true
between-above [] h = refl
between-above (w ∷ ws) h = behind-above (w ∷ ws) h

-- there is always a part
line-ended : (p rest : List ℕ) (ls : List TextLine) → line_then p (parts lf rest) ls ≡ record { text = p; ended = true } ∷ ls
line-ended p [] ls = refl
line-ended p (b ∷ bs) ls = grind arith

pub lines-first : (ws : List (List ℕ)) (rest : List ℕ) → clear ws ≡ true → lines_of (line_text ws ++ rest) ≡ line_of ws ∷ lines_of rest
lines-first ws rest h =
    ap lines_of (append_assoc (between space ws) (lf ∷ []) rest)
    ∙ ap lines_in (parts_first lf (between space ws) rest (between-above ws h))
    ∙ line-ended (between space ws) rest (lines_of rest)
