-- A list with others written into it from a place on.
use Rattle.std.proofs.Common.{◌≡◌, ℕ, ◌+◌, ◌<◌, List, [], ◌∷◌, ◌++◌, length, get_or, take, drop, set, sym, ap, ◌∙◌, add-zero, arith}
use Rattle.std.proofs.lemmas.List.{append_assoc, length-append, length-take-le, length_push, take-append-drop, drop_more, drop-drop, drop_at, take_at, set_at}

module _ {X : Type 0} where
  abbrev pub written : ℕ → List X → List X → List X
  written at new xs = take at xs ++ (new ++ drop (at + length new) xs)

  pub written-none : (at : ℕ) (xs : List X) → xs ≡ written at [] xs
  written-none at xs = sym (take-append-drop at xs) ∙ ap (λ n. take at xs ++ drop n xs) (sym (add-zero at))

  -- one more behind them
  pub written-push : (at : ℕ) (new xs : List X) (y : X) → at + length new < length xs →
      set (written at new xs) (at + length new) y ≡ written at (new ++ y ∷ []) xs
  written-push at new xs y within =
      let n = at + length new in
      let front = take at xs ++ new in
      let long : length front ≡ n = omega (arith, length-append (take at xs) new, length-take-le at xs (omega arith)) in
      let more : n + 1 ≡ at + length (new ++ y ∷ []) = omega (arith, length_push new y) in
      ap (λ l. set (take at xs ++ (new ++ l)) n y) (drop_more xs n y within)
      ∙ ap (λ l. set l n y) (sym (append_assoc (take at xs) new (get_or xs n y ∷ drop (n + 1) xs)))
      ∙ set_at front (get_or xs n y) (drop (n + 1) xs) y n long
      ∙ append_assoc (take at xs) new (y ∷ drop (n + 1) xs)
      ∙ ap (λ l. take at xs ++ l) (sym (append_assoc new (y ∷ []) (drop (n + 1) xs)))
      ∙ ap (λ k. take at xs ++ ((new ++ y ∷ []) ++ drop k xs)) more

  -- from the start, and then more behind that
  pub written-more : (old new xs ys : List X) (at end : ℕ) → at ≡ length old → end ≡ at + length new → ys ≡ old ++ drop at xs →
      take at ys ++ (new ++ drop end ys) ≡ (old ++ new) ++ drop end xs
  written-more old new xs ys at end here there was =
      ap (λ l. take at l ++ (new ++ drop end l)) was
      ∙ ap (λ l. l ++ (new ++ drop end (old ++ drop at xs))) (take_at old (drop at xs) at (sym here))
      ∙ ap (λ k. old ++ (new ++ drop k (old ++ drop at xs))) there
      ∙ ap (λ l. old ++ (new ++ l))
      (sym (drop-drop (length new) at (old ++ drop at xs))
      ∙ ap (drop (length new)) (drop_at old (drop at xs) at (sym here))
      ∙ drop-drop (length new) at xs
      ∙ ap (λ k. drop k xs) (sym there))
      ∙ sym (append_assoc old new (drop end xs))
