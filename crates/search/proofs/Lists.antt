-- `list_all` and `list_any`, element by element.
use Rattle.std.proofs.Common.{◌≡◌, Bool, true, ◌⊎◌, List, [], ◌∷◌, sym, refl, inl, inr, arith}
use Rattle.std.proofs.lemmas.Bool.{and_from, or_cases, true≢false}
use Rattle.std.specs.List.{list_all, list_any}

-- a is an element of the list
abbrev pub Among : {X : Type 0} → X → List X → Type 0
Among a [] = ⊥
Among a (x ∷ xs) = (x ≡ a) ⊎ Among a xs

module _ {X : Type 0} (f : X → Bool) where
  pub list_all-at : (a : X) (xs : List X) → list_all f xs ≡ true → Among a xs → f a ≡ true
  list_all-at a [] h m = absurd m
  list_all-at a (x ∷ xs) h m = grind (arith, list_all-at a xs)

  pub list_all-by : (xs : List X) → ((a : X) → Among a xs → f a ≡ true) → list_all f xs ≡ true
  list_all-by [] h = refl
  list_all-by (x ∷ xs) h = and_from (f x) (list_all f xs) (h x (inl refl)) (list_all-by xs (λ a m. h a (inr m)))

  pub list_any_is : (xs : List X) → list_any f xs ≡ true → (a : X) × Among a xs × (f a ≡ true)
  list_any_is [] h = absurd (true≢false (sym h))
  list_any_is (x ∷ xs) h =
      elim (or_cases (f x) (list_any f xs) h)
      [ inl e ↦ (x, inl refl, e) | inr e ↦ let r = list_any_is xs e in (r.0, inr r.1, r.2) ]
