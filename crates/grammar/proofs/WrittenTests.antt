-- A line whose words keep their forms, and whose values pass, has no fault.
use Rattle.std.proofs.Common.{◌≡◌, ℕ, suc, Bool, true, false, cond, List, [], ◌∷◌, ◌++◌, length, None, refl, ◌∙◌, arith}
use Rattle.std.proofs.lemmas.Bool.{eq-eqb, cond-true}
use Rattle.std.specs.List.{list_all}
use Rattle.grammar.specs.Faults.{reported}
use Rattle.grammar.specs.Lines.{Test, all_pass, word_tests, form_tests, line_tests}
use Rattle.grammar.specs.Text.{TextLine, words}

-- none of the tests is failed
abbrev pub Faultless : List Test → Type 0
Faultless ts = reported ts ≡ None

pub faultless : (ts : List Test) → all_pass ts ≡ true → Faultless ts
faultless [] h = refl
faultless (t ∷ ts) h = grind (arith, faultless ts)

faultless-append : (ts us : List Test) → Faultless ts → Faultless us → Faultless (ts ++ us)
faultless-append [] us h k = k
faultless-append (t ∷ ts) us h k = grind (arith, faultless-append ts us)

faultless-words : (i : ℕ) (forms : List Bool) → list_all (λ b. b) forms ≡ true → Faultless (word_tests i forms)
faultless-words i [] h = refl
faultless-words i (b ∷ forms) h = grind (arith, faultless-words (suc i) forms)

faultless-if : (b : Bool) (ts : List Test) → Faultless ts → Faultless (cond b ts [])
faultless-if true ts h = h
faultless-if false ts h = refl

pub faultless-line : (forms : List Bool) (values : List Test) (l : TextLine) → l.ended ≡ true →
    length (words l.text) ≡ length forms → list_all (λ b. b) forms ≡ true → Faultless values → Faultless (line_tests forms values l)
faultless-line forms values l ended counted kept fine =
    faultless-append (form_tests forms l) _
    (cond-true l.ended _ _ ended
    ∙ cond-true _ _ _ (eq-eqb (length (words l.text)) (length forms) counted)
    ∙ faultless-if _ (word_tests 1 forms) (faultless-words 1 forms kept))
    (faultless-if (all_pass (form_tests forms l)) values fine)
