-- One leg more at the low end of an order, or one bus more: what solves the rest then solves the whole, and the other way round.
use Rattle.std.proofs.Common.{◌≡◌, ℕ, true, false, List, [], ◌∷◌, is_some, Some, None, refl, ◌∙◌, inl, inr, arith}
use mathlib.Core.Path.{fun_ext}
use Rattle.std.proofs.lemmas.Bool.{or_left}
use Rattle.search.specs.Net.{Leg, same, Net, has, has_any, less, Delays}
use Rattle.search.specs.Deadlines.{Order, delays}
use Rattle.search.specs.Walk.{put, new_bus}
use Rattle.search.specs.Laws.{Lawful}
use Rattle.search.proofs.Legs.{same-itself, same-turned, same-tells}
use Rattle.search.proofs.Shorter.{order-delay}
use Rattle.search.proofs.Open.{Open, open-before, open_after, open-other}
use Rattle.search.proofs.Marks.{marks, Solves}

pub solves-new_bus : (net : Net) (p : Delays) (os ls : List (List Leg)) → Solves net p os ls → Solves net p (new_bus os) ([] ∷ ls)
solves-new_bus net p os ls s = record { orders = (refl, s.orders); ranked = s.ranked; pairs = s.pairs }

pub solves-next_bus : (net : Net) (p : Delays) (os ls : List (List Leg)) → Solves net p (new_bus os) ([] ∷ ls) → Solves net p os ls
solves-next_bus net p os ls s = record { orders = s.orders.1; ranked = s.ranked; pairs = s.pairs }

module _ (net : Net) (c : Leg) (o : List Leg) (os : List (List Leg)) where
  pub lowest_delay : delays net ((c ∷ o) ∷ os) c ≡ net.delay c o
  lowest_delay = grind (arith, same-itself c)

  other-delay : (y : Leg) → same c y ≡ false → delays net ((c ∷ o) ∷ os) y ≡ delays net (o ∷ os) y
  other-delay y h = grind (arith, same-turned c y)

  -- c has the same mark lowest in the first order and ranked at its delay there; the other legs have the same marks too
  pub same-mark : (p : Delays) (d : ℕ) → p c ≡ None → net.delay c o ≡ Some d → (y : Leg) →
      marks net p ((c ∷ o) ∷ os) y ≡ marks net (put p c (Some d)) (o ∷ os) y
  same-mark p d n e y =
      elim (same-tells c y)
      [ inl t ↦ rw (← t.1) (grind (arith, same-itself c, lowest_delay)) | inr t ↦ grind (arith, other-delay y t) ]

-- c is open and gets the delay d below the other open legs
module _ (net : Net) (lawful : Lawful net) (p : Delays) (l : List Leg) (ls : List (List Leg)) (stands : Open p (l ∷ ls))
    (c : Leg) (on : has c l ≡ true) (d : ℕ) (gets : net.delay c (less c l) ≡ Some d) (o : List Leg) (os : List (List Leg))
  where
    gets-in : Order o (less c l) → net.delay c o ≡ Some d
    gets-in h = order-delay net lawful c o (less c l) h ∙ gets

    same-marks : Order o (less c l) → marks net p ((c ∷ o) ∷ os) ≡ marks net (put p c (Some d)) (o ∷ os)
    same-marks h = fun_ext (same-mark net c o os p d (stands.none c (or_left (has c l) (has_any c ls) on)) (gets-in h))

    ranked-below : Solves net (put p c (Some d)) (o ∷ os) (less c l ∷ ls) → (y : Leg) → has_any y (l ∷ ls) ≡ true →
        is_some (delays net ((c ∷ o) ∷ os) y) ≡ true
    ranked-below s y h =
        grind (
          arith,
          same-tells c y,
          lowest_delay net c o os,
          gets-in s.orders.0,
          other-delay net c o os y,
          s.ranked y,
          open_after c y l ls,
        )

    ranked-above : Solves net p ((c ∷ o) ∷ os) (l ∷ ls) → (y : Leg) → has_any y (less c l ∷ ls) ≡ true →
        is_some (delays net (o ∷ os) y) ≡ true
    ranked-above s y h =
        grind (arith, open-other c y l ls stands.apart on h, other-delay net c o os y, s.ranked y, open-before c y l ls h)

    pub solves-below : Solves net (put p c (Some d)) (o ∷ os) (less c l ∷ ls) → Solves net p ((c ∷ o) ∷ os) (l ∷ ls)
    solves-below s = record {
      orders = ((on, s.orders.0), s.orders.1);
      ranked = ranked-below s;
      pairs = rw (same-marks s.orders.0) s.pairs;
    }

    pub solves-above : Solves net p ((c ∷ o) ∷ os) (l ∷ ls) → Solves net (put p c (Some d)) (o ∷ os) (less c l ∷ ls)
    solves-above s = record {
      orders = (s.orders.0.1, s.orders.1);
      ranked = ranked-above s;
      pairs = rw (← same-marks s.orders.0.1) s.pairs;
    }
