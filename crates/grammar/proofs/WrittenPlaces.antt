-- Which line stands where, once some lines are dropped.
use Rattle.std.proofs.Common.{◌≡◌, ℕ, zero, suc, ◌+◌, true, eqb, List, [], ◌∷◌, ◌++◌, drop, Some, sym, ap, add-one, ◌∙◌, arith}
use Rattle.std.proofs.lemmas.Bool.{cond-false, ne_eqb}
use Rattle.std.proofs.lemmas.List.{drop-drop}
use Rattle.boards.specs.Nets.{numbers_from}
use Rattle.grammar.specs.Content.{words_in, words_of}
use Rattle.grammar.specs.Text.{TextLine, line_at}
use Rattle.grammar.proofs.WrittenText.{clear, line_of, words-between}

line_at-suc : (l : TextLine) (ls : List TextLine) (n : ℕ) → line_at (l ∷ ls) (suc (suc n)) ≡ line_at ls (suc n)
line_at-suc l ls n =
    cond-false (eqb (suc (suc n)) 1) _ _ (ne_eqb (suc (suc n)) 1 (omega arith)) ∙ ap (line_at ls) (omega arith)

-- what is left begins with the line that comes next
pub line-at : (ls : List TextLine) (n : ℕ) (l : TextLine) (rest : List TextLine) → drop n ls ≡ l ∷ rest → line_at ls (suc n) ≡ Some l
line-at [] zero l rest e = grind arith
line-at [] (suc n) l rest e = grind arith
line-at (k ∷ ls) zero l rest e = grind arith
line-at (k ∷ ls) (suc n) l rest e = line_at-suc k ls n ∙ line-at ls n l rest e

pub drop_next : {X : Type 0} (xs : List X) (n : ℕ) (x : X) (rest : List X) → drop n xs ≡ x ∷ rest → drop (suc n) xs ≡ rest
drop_next xs n x rest e = ap (λ k. drop k xs) (sym (add-one n)) ∙ sym (drop-drop 1 n xs) ∙ ap (drop 1) e

pub words-at : (ls : List TextLine) (n : ℕ) (w : List ℕ) (ws : List (List ℕ)) → clear (w ∷ ws) ≡ true → line_at ls n ≡ Some (line_of (w ∷ ws)) →
    words_of ls n ≡ w ∷ ws
words-at ls n w ws h e = ap words_in e ∙ words-between w ws h

-- one number more at the end
pub numbers-push : (k n : ℕ) → numbers_from k (suc n) ≡ numbers_from k n ++ (k + n) ∷ []
numbers-push k zero = ap (λ m. m ∷ []) (omega arith)
numbers-push k (suc n) = ap (λ ms. k ∷ ms) (numbers-push (suc k) n ∙ ap (λ m. numbers_from (suc k) n ++ m ∷ []) (omega arith))
