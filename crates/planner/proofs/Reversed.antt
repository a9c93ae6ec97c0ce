-- A list turned round: what is mapped over it, and a test of each of its elements.
use Rattle.std.proofs.Common.{◌≡◌, Bool, List, [], ◌∷◌, ◌++◌, map, reverse, sym, refl, ap, ◌∙◌, arith}
use mathlib.Core.List.{reverse-cons}
use Rattle.std.specs.List.{list_all}
use Rattle.std.proofs.lemmas.List.{map_push}
use Rattle.std.proofs.lemmas.List.Folds.{list_all-append}

pub map-reverse : {X Y : Type 0} (f : X → Y) (xs : List X) → map f (reverse xs) ≡ reverse (map f xs)
map-reverse f [] = refl
map-reverse f (x ∷ xs) =
    ap (map f) (reverse-cons x xs) ∙ map_push f (reverse xs) x ∙ ap (λ l. l ++ f x ∷ []) (map-reverse f xs) ∙ sym (reverse-cons (f x) (map f xs))

pub list_all-reverse : {X : Type 0} (f : X → Bool) (xs : List X) → list_all f (reverse xs) ≡ list_all f xs
list_all-reverse f [] = refl
list_all-reverse f (x ∷ xs) = ap (list_all f) (reverse-cons x xs) ∙ list_all-append f (reverse xs) (x ∷ []) ∙ grind (arith, list_all-reverse f xs)
