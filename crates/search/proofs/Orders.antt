-- An order and the legs that it orders: the same legs, and what is left of both without one leg.
use Rattle.std.proofs.Common.{◌≡◌, List, [], ◌∷◌, sym, ap, subst, inl, inr, arith}
use Rattle.search.specs.Net.{Leg, has, less}
use Rattle.search.specs.Deadlines.{Order}
use Rattle.search.proofs.Legs.{same-turned, same-tells, has-less, less-twice, less-turned}

pub order-has : (y : Leg) (o l : List Leg) → Order o l → has y o ≡ has y l
order-has y [] l h = ap (has y) (sym h)
order-has y (x ∷ o) l h = grind (arith, order-has y o (less x l) h.1, h.0, has-less x y l, same-tells y x, same-turned x y)

pub order-less : (c : Leg) (o l : List Leg) → Order o l → Order (less c o) (less c l)
order-less c [] l h = ap (less c) h
order-less c (x ∷ o) l h =
    let rest = order-less c o (less x l) h.1 in
    elim (same-tells c x) [
      | inl t ↦ rw t.0 (subst (Order (less c o)) (rw (← t.1) (less-twice c l)) rest)
      | inr t ↦ rw t (grind (arith, has-less c x l, h.0), subst (Order (less c o)) (less-turned c x l) rest)
    ]
