-- What stands behind a leg in a list, and what stands behind a candidate among the candidates of a rank.
use Rattle.std.proofs.Common.{◌≡◌, Bool, true, false, not, List, [], ◌∷◌, ◌++◌, refl, ap, ◌∙◌, arith}
use Rattle.std.specs.List.{filter}
use Rattle.search.specs.Net.{Leg, Net, has, Delays}
use Rattle.search.specs.Walk.{ready, candidates}
use Rattle.search.specs.Stored.{behind}
use Rattle.search.proofs.Legs.{same-itself, same-tells, has_kept}

pub behind-first : (c : Leg) (l : List Leg) → behind c (c ∷ l) ≡ l
behind-first c l = grind (arith, same-itself c)

-- what stands behind a leg of a list is in the list
pub behind-has : (c x : Leg) (l : List Leg) → has x (behind c l) ≡ true → has x l ≡ true
behind-has c x [] h = grind arith
behind-has c x (y ∷ l) h = grind (arith, behind-has c x l)

-- what a test that c passes keeps behind it
behind-kept : (f : Leg → Bool) (c : Leg) → f c ≡ true → (l : List Leg) → behind c (filter f l) ≡ filter f (behind c l)
behind-kept f c h [] = refl
behind-kept f c h (y ∷ l) = grind (arith, behind-kept f c h l, same-tells c y)

-- behind a leg of the first of two lists, and behind one that is not in it
pub behind-in : (c : Leg) (h k : List Leg) → has c h ≡ true → behind c (h ++ k) ≡ behind c h ++ k
behind-in c [] k e = grind arith
behind-in c (y ∷ h) k e = grind (arith, behind-in c h k)

pub behind-past : (c : Leg) (h k : List Leg) → has c h ≡ false → behind c (h ++ k) ≡ behind c k
behind-past c [] k e = refl
behind-past c (y ∷ h) k e = grind (arith, behind-past c h k)

-- ---------------------------------------------------------------- among the candidates
module _ (net : Net) (p : Delays) (l : List Leg) where
  -- behind a ready leg stand the ready legs behind it, and then all that are not ready
  pub behind-ready : (c : Leg) → has c l ≡ true → ready net p c ≡ true →
      behind c (candidates net p l) ≡ filter (ready net p) (behind c l) ++ filter (λ x. not (ready net p x)) l
  behind-ready c on can =
      behind-in c (filter (ready net p) l) (filter (λ x. not (ready net p x)) l) (grind (arith, has_kept c (ready net p) l))
      ∙ ap (λ (k : List Leg). k ++ filter (λ x. not (ready net p x)) l) (behind-kept (ready net p) c can l)

  -- behind a leg that is not ready stand those behind it that are not ready
  pub behind-unready : (c : Leg) → ready net p c ≡ false →
      behind c (candidates net p l) ≡ filter (λ x. not (ready net p x)) (behind c l)
  behind-unready c not_yet =
      behind-past c (filter (ready net p) l) (filter (λ x. not (ready net p x)) l) (grind (arith, has_kept c (ready net p) l))
      ∙ behind-kept (λ x. not (ready net p x)) c (grind arith) l
