-- The elements of the lists that a net is made of.
use Rattle.std.proofs.Common.{◌≡◌, ℕ, zero, suc, ◌+◌, ◌<◌, ◌≤◌, Bool, true, ◌⊎◌, List, [], ◌∷◌, ◌++◌, map, refl, inl, inr, arith}
use Rattle.std.specs.List.{list_any, flat_map, filter}
use Rattle.search.specs.Net.{Leg, same, has}
use Rattle.search.proofs.Legs.{same-itself}
use Rattle.search.proofs.Lists.{Among}
use Rattle.boards.specs.Nets.{numbers_from}

module _ {X : Type 0} (f : X → Bool) where
  pub list_any-by : (a : X) (xs : List X) → Among a xs → f a ≡ true → list_any f xs ≡ true
  list_any-by a [] m h = absurd m
  list_any-by a (x ∷ xs) m h = grind (arith, list_any-by a xs)

  pub kept-among : (a : X) (xs : List X) → Among a xs → f a ≡ true → Among a (filter f xs)
  kept-among a [] m h = m
  kept-among a (x ∷ xs) m h = grind (arith, kept-among a xs)

  pub kept-is : (a : X) (xs : List X) → Among a (filter f xs) → Among a xs × (f a ≡ true)
  kept-is a [] m = absurd m
  kept-is a (x ∷ xs) m = grind (arith, kept-is a xs)

module _ {X Y : Type 0} (f : X → Y) where
  pub map_among : (a : X) (xs : List X) → Among a xs → Among (f a) (map f xs)
  map_among a [] m = m
  map_among a (x ∷ xs) m = grind (arith, map_among a xs)

  pub map_is : (y : Y) (xs : List X) → Among y (map f xs) → (a : X) × Among a xs × (f a ≡ y)
  map_is y [] m = absurd m
  map_is y (x ∷ xs) (inl e) = (x, inl refl, e)
  map_is y (x ∷ xs) (inr m) = let r = map_is y xs m in (r.0, inr r.1, r.2)

module _ {X : Type 0} (a : X) where
  append_left : (xs ys : List X) → Among a xs → Among a (xs ++ ys)
  append_left [] ys m = absurd m
  append_left (x ∷ xs) ys m = grind (arith, append_left xs ys)

  append_right : (xs ys : List X) → Among a ys → Among a (xs ++ ys)
  append_right [] ys m = m
  append_right (x ∷ xs) ys m = inr (append_right xs ys m)

  append_is : (xs ys : List X) → Among a (xs ++ ys) → Among a xs ⊎ Among a ys
  append_is [] ys m = inr m
  append_is (x ∷ xs) ys m = grind (arith, append_is xs ys)

module _ {X Y : Type 0} (f : X → List Y) where
  pub joined_among : (a : X) (y : Y) (xs : List X) → Among a xs → Among y (f a) → Among y (flat_map f xs)
  joined_among a y [] m h = absurd m
  joined_among a y (x ∷ xs) m h =
      grind (arith, joined_among a y xs, append_left y (f x) (flat_map f xs), append_right y (f x) (flat_map f xs))

  pub joined_is : (y : Y) (xs : List X) → Among y (flat_map f xs) → (a : X) × Among a xs × Among y (f a)
  joined_is y [] m = absurd m
  joined_is y (x ∷ xs) m =
      elim (append_is y (f x) (flat_map f xs) m)
      [ inl h ↦ (x, inl refl, h) | inr h ↦ let r = joined_is y xs h in (r.0, inr r.1, r.2) ]

pub has-among : (x : Leg) (l : List Leg) → Among x l → has x l ≡ true
has-among x l m = list_any-by (same x) x l m (same-itself x)

pub numbers-among : (k a n : ℕ) → a ≤ k → k < a + n → Among k (numbers_from a n)
numbers-among k a zero low high = absurd (omega arith)
numbers-among k a (suc n) low high = grind (arith, numbers-among k (suc a) n)

pub numbers-is : (k a n : ℕ) → Among k (numbers_from a n) → (a ≤ k) × (k < a + n)
numbers-is k a zero m = absurd m
numbers-is k a (suc n) m = grind (arith, numbers-is k (suc a) n)
