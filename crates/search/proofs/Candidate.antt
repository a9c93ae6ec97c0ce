-- The next candidate as a program looks for it: the first leg of a list that passes a test.
use Rattle.std.proofs.Common.{◌≡◌, Bool, true, false, not, List, [], ◌∷◌, ◌++◌, refl, ap, ◌∙◌, arith}
use Rattle.std.specs.List.{filter}
use Rattle.search.specs.Net.{Leg, Net, has, Delays}
use Rattle.search.specs.Walk.{ready, candidates}
use Rattle.search.specs.Stored.{behind, head_of, first_by, or_first}
use Rattle.search.proofs.Behind.{behind-ready, behind-unready}

first-kept : (f : Leg → Bool) (l : List Leg) → head_of (filter f l) ≡ first_by f l
first-kept f [] = refl
first-kept f (x ∷ l) = grind (arith, first-kept f l)

first-append : (h k : List Leg) → head_of (h ++ k) ≡ or_first (head_of h) (head_of k)
first-append [] k = refl
first-append (x ∷ h) k = refl

head_of-two : (f g : Leg → Bool) (h k : List Leg) → head_of (filter f h ++ filter g k) ≡ or_first (first_by f h) (first_by g k)
head_of-two f g h k =
    first-append (filter f h) (filter g k) ∙ (λ i. or_first (first-kept f h i) (first-kept g k i))

module _ (net : Net) (p : Delays) (l : List Leg) where
  -- the first candidate is the first ready leg, and the first leg where none is ready
  pub first-candidate : head_of (candidates net p l) ≡ or_first (first_by (ready net p) l) (first_by (λ x. not (ready net p x)) l)
  first-candidate = head_of-two (ready net p) (λ x. not (ready net p x)) l l

  -- after a ready leg: the next ready one, and where there is none the first that is not ready
  pub next-after_ready : (c : Leg) → has c l ≡ true → ready net p c ≡ true →
      head_of (behind c (candidates net p l)) ≡ or_first (first_by (ready net p) (behind c l)) (first_by (λ x. not (ready net p x)) l)
  next-after_ready c on can =
      ap head_of (behind-ready net p l c on can) ∙ head_of-two (ready net p) (λ x. not (ready net p x)) (behind c l) l

  -- after a leg that is not ready: the next that is not ready
  pub next-after_unready : (c : Leg) → ready net p c ≡ false →
      head_of (behind c (candidates net p l)) ≡ first_by (λ x. not (ready net p x)) (behind c l)
  next-after_unready c not_yet =
      ap head_of (behind-unready net p l c not_yet) ∙ first-kept (λ x. not (ready net p x)) (behind c l)
