-- Lists in which no leg stands twice: so are what `less` and a test leave of them, and the candidates of a rank.
use Rattle.std.proofs.Common.{◌≡◌, ◌<◌, Bool, true, false, not, ◌&&◌, ltb, List, [], ◌∷◌, ◌++◌, refl, arith}
use Rattle.std.specs.List.{list_all, filter}
use Rattle.std.proofs.lemmas.Bool.{or_right}
use Rattle.std.proofs.lemmas.Bool.Decides.{nat_tests}
use Rattle.search.specs.Net.{Leg, same, Net, has, less, Delays}
use Rattle.search.specs.Walk.{ready, candidates}
use Rattle.search.specs.Stored.{behind, distinct}
use Rattle.search.proofs.Legs.{same-itself, same-tells, has-less, has-append, has_kept}
use Rattle.search.proofs.Behind.{behind-has}

-- by rising message numbers
abbrev pub rising : List Leg → Bool
rising [] = true
rising (x ∷ l) = list_all (λ y. ltb x.message y.message) l && rising l

rising-past : (x y : Leg) (l : List Leg) → list_all (λ z. ltb x.message z.message) l ≡ true → has y l ≡ true → x.message < y.message
rising-past x y [] r h = grind arith
rising-past x y (z ∷ l) r h = grind (arith, nat_tests, rising-past x y l, same-tells y z)

pub rising-distinct : (l : List Leg) → rising l ≡ true → distinct l ≡ true
rising-distinct [] r = refl
rising-distinct (x ∷ l) r = grind (arith, rising-distinct l, rising-past x x l)

pub distinct-less : (x : Leg) (l : List Leg) → distinct l ≡ true → distinct (less x l) ≡ true
distinct-less x [] h = refl
distinct-less x (y ∷ l) h = grind (arith, distinct-less x l, has-less x y l)

distinct-kept : (f : Leg → Bool) (l : List Leg) → distinct l ≡ true → distinct (filter f l) ≡ true
distinct-kept f [] h = refl
distinct-kept f (y ∷ l) h = grind (arith, distinct-kept f l, has_kept y f l)

distinct_append : (h k : List Leg) → distinct h ≡ true → distinct k ≡ true → ((y : Leg) → has y h ≡ true → has y k ≡ false) →
    distinct (h ++ k) ≡ true
distinct_append [] k a b other = b
distinct_append (x ∷ h) k a b other =
    let rest = distinct_append h k (grind arith) b (λ y m. other y (or_right (same y x) (has y h) m)) in
    grind (arith, rest, has-append x h k, other x, same-itself x)

pub distinct-candidates : (net : Net) (p : Delays) (l : List Leg) → distinct l ≡ true → distinct (candidates net p l) ≡ true
distinct-candidates net p l h =
    distinct_append (filter (ready net p) l) (filter (λ x. not (ready net p x)) l) (distinct-kept (ready net p) l h)
    (distinct-kept (λ x. not (ready net p x)) l h)
    (λ y m. grind (arith, has_kept y (ready net p) l, has_kept y (λ x. not (ready net p x)) l))

-- in such a list, behind the first of what stands behind a leg stand the others
pub behind-next : (c d : Leg) (l cs : List Leg) → distinct l ≡ true → behind c l ≡ d ∷ cs → behind d l ≡ cs
behind-next c d [] cs h e = grind arith
behind-next c d (y ∷ l) cs h e =
    grind (arith, behind-next c d l cs, behind-has c d l, same-tells d y, same-itself d)
