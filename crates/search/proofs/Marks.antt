-- What would end a walk under way: orders of the open legs that solve the net together with the delays of the ranked ones. From the
-- start, where no leg is ranked, these are the orders that meet the net.
use Rattle.std.proofs.Common.{◌≡◌, Bool, true, List, [], ◌∷◌, is_some, None, inl, inr, arith}
use Rattle.std.proofs.lemmas.Bool.{or_cases}
use Rattle.std.specs.List.{list_all, list_any}
use Rattle.search.specs.Net.{Leg, Pair, Net, has, has_any, touches, Delays}
use Rattle.search.specs.Deadlines.{Orders, delays, met, Meets}
use Rattle.search.specs.Walk.{or_else}
use Rattle.search.specs.Laws.{Lawful}
use Rattle.search.proofs.Lists.{list_all-at, list_all-by, list_any_is}
use Rattle.search.proofs.Legs.{same-tells}
use Rattle.search.proofs.Shorter.{no_longer-first, met-shorter}

-- a ranked leg has its delay, and another the delay that it gets in its order
abbrev pub marks : Net → Delays → List (List Leg) → Delays
marks net p os y = or_else (p y) (delays net os y)

-- os orders the open legs ls, each with a delay, and together with the ranked legs they meet every pair
pub record Solves (net : Net) (p : Delays) (os ls : List (List Leg)) : Type 0 where
  pub orders : Orders os ls
  pub ranked : (y : Leg) → has_any y ls ≡ true → is_some (delays net os y) ≡ true
  pub pairs : list_all (met net (marks net p os)) net.pairs ≡ true

-- a pair of ranked legs that is in time stays so
pub met-marked : (net : Net) (q : Delays) (os : List (List Leg)) (pr : Pair) → met net q pr ≡ true → met net (marks net q os) pr ≡ true
met-marked net q os pr =
    met-shorter net (marks net q os) q pr (no_longer-first (q pr.source) (delays net os pr.source))
    (no_longer-first (q pr.destination) (delays net os pr.destination))

-- ---------------------------------------------------------------- from the start
has-list_all : (f : Leg → Bool) (x : Leg) (l : List Leg) → list_all f l ≡ true → has x l ≡ true → f x ≡ true
has-list_all f x [] e h = grind arith
has-list_all f x (y ∷ l) e h = grind (arith, has-list_all f x l, same-tells x y)

touched_some : (net : Net) (q : Delays) (x : Leg) (pr : Pair) → touches x pr ≡ true → met net q pr ≡ true → is_some (q x) ≡ true
touched_some net q x pr t h = grind (arith, same-tells x pr.source, same-tells x pr.destination)

module _ (net : Net) (lawful : Lawful net) (os : List (List Leg)) where
  pub solves-from_meets : Meets net os → Solves net (λ _. None) os net.buses
  solves-from_meets m = record { orders = m.orders; ranked = ranked; pairs = m.pairs }
    where
      ranked : (y : Leg) → has_any y net.buses ≡ true → is_some (delays net os y) ≡ true
      ranked y h =
          elim (or_cases (has y net.locals) (list_any (touches y) net.pairs) (lawful.each y h)) [
            | inl e ↦ has-list_all (λ x. is_some (delays net os x)) y net.locals m.locals e
            | inr e ↦
                let r = list_any_is (touches y) net.pairs e in
                touched_some net (delays net os) y r.0 r.2 (list_all-at (met net (delays net os)) r.0 net.pairs m.pairs r.1)
          ]

  pub meets-from_solves : Solves net (λ _. None) os net.buses → Meets net os
  meets-from_solves s = record {
    orders = s.orders;
    locals = list_all-by (λ x. is_some (delays net os x)) net.locals
        (λ x m. s.ranked x (list_all-at (λ y. has_any y net.buses) x net.locals lawful.locals_on m));
    pairs = s.pairs;
  }
