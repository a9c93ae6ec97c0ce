-- Lists of tests: which fault is reported, and that it is the least where the tests stand in order.
use Rattle.std.proofs.Common.{◌≡◌, ◌<◌, ◌≤◌, Bool, true, ◌&&◌, ◌||◌, eqb, ltb, leb, ◌⊎◌, List, [], ◌∷◌, Some, None, sym, refl, ◌∙◌, subst, inl, inr, arith}
use Rattle.std.proofs.lemmas.Bool.{both_ways, cases_Bool, and_parts}
use Rattle.std.proofs.lemmas.Bool.Decides.{nat_tests}
use Rattle.std.proofs.lemmas.Option.{none-some, same_Some}
use Rattle.bus.specs.Refusals.{number_of}
use Rattle.std.specs.List.{list_all}
use Rattle.grammar.specs.Faults.{Finds, reported}
use Rattle.grammar.specs.Lines.{Fault, Test}

-- the second does not come before the first: by number, then by word
abbrev NotAfter : Fault → Fault → Type 0
NotAfter a b =
    (number_of a.refusal < number_of b.refusal) ⊎ ((number_of a.refusal ≡ number_of b.refusal) × (a.word ≤ b.word))

abbrev not_after : Fault → Fault → Bool
not_after a b =
    ltb (number_of a.refusal) (number_of b.refusal) || (eqb (number_of a.refusal) (number_of b.refusal) && leb a.word b.word)

-- no test's fault comes before that of an earlier test
abbrev pub ordered : List Test → Bool
ordered [] = true
ordered (t ∷ ts) = list_all (λ u. not_after t.fault u.fault) ts && ordered ts

not_after-tells : (a b : Fault) → not_after a b ≡ true → NotAfter a b
not_after-tells a b h = grind (arith, nat_tests)

pub not_after-same : (a b : Fault) → a ≡ b → NotAfter a b
not_after-same a b e = subst (λ (x : Fault). NotAfter a x) e (inr (refl, omega arith))

not_after-found : (a b : Fault) (ts : List Test) → list_all (λ u. not_after a u.fault) ts ≡ true → Finds ts b → NotAfter a b
not_after-found a b [] h m = absurd m
not_after-found a b (t ∷ ts) h m =
    let both = and_parts (not_after a t.fault) (list_all (λ u. not_after a u.fault) ts) h in
    elim m [
      | inl here ↦ subst (λ (x : Fault). NotAfter a x) here.1 (not_after-tells a t.fault both.0)
      | inr rest ↦ not_after-found a b ts both.1 rest
    ]

-- where none is reported, none is found
pub none_found : (ts : List Test) → reported ts ≡ None → (f : Fault) → Finds ts f → ⊥
none_found [] h f m = m
none_found (t ∷ ts) h f m = grind (arith, none_found ts)

-- the one that is reported is found
pub reported-found : (ts : List Test) (f : Fault) → reported ts ≡ Some f → Finds ts f
reported-found [] f h = absurd (none-some f h)
reported-found (t ∷ ts) f h = grind (arith, reported-found ts f)

-- and of an ordered list it is the least that is found
pub reported-least : (ts : List Test) → ordered ts ≡ true → (f : Fault) → reported ts ≡ Some f → (g : Fault) → Finds ts g → NotAfter f g
reported-least [] s f h g m = absurd m
reported-least (t ∷ ts) s f h g m =
    let both = and_parts _ (ordered ts) s in
    elim (cases_Bool t.passes) [
      | inl e ↦ elim m [ inl here ↦ absurd (both_ways _ here.0 e) | inr later ↦ reported-least ts both.1 f (rw e at h) g later ]
      | inr e ↦
          let same = same_Some t.fault f (rw e at h) in
          elim m [
            | inl here ↦ not_after-same f g (sym same ∙ here.1)
            | inr later ↦ subst (λ (x : Fault). NotAfter x g) same (not_after-found t.fault g ts both.0 later)
          ]
    ]
