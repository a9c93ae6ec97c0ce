-- The exchange: where a ready leg fits, any solution can be turned into one that has this leg lowest.
use Rattle.std.proofs.Common.{◌≡◌, ℕ, true, false, List, ◌∷◌, is_some, Some, inl, inr, arith}
use Rattle.std.proofs.lemmas.Bool.{cases_Bool, or_parts}
use Rattle.search.specs.Net.{Leg, same, Pair, Net, has, less, touches, Delays}
use Rattle.search.specs.Deadlines.{delays, met}
use Rattle.search.specs.Walk.{put, fit, partnered, ready}
use Rattle.search.specs.Laws.{Lawful}
use Rattle.search.proofs.Lists.{Among, list_all-at, list_all-by}
use Rattle.search.proofs.Orders.{order-less}
use Rattle.search.proofs.Shorter.{NoLonger, no_longer-some, no_longer-else, met-shorter, fewer}
use Rattle.search.proofs.Open.{Open, open-before, open-other}
use Rattle.search.proofs.Marks.{marks, Solves, met-marked}
use Rattle.search.proofs.Fits.{fit-meets}

module _ (net : Net) (lawful : Lawful net) (p : Delays) (l : List Leg) (ls : List (List Leg)) (stands : Open p (l ∷ ls))
    (x : Leg) (on : has x l ≡ true) (d : ℕ) (fits : fit net p l x ≡ Some d) (can : ready net p x ≡ true)
  where
    -- both legs of a ready leg's pair are ranked once it is
    ready-ranked : (pr : Pair) → Among pr net.pairs → touches x pr ≡ true →
        (is_some (put p x (Some d) pr.source) ≡ true) × (is_some (put p x (Some d) pr.destination) ≡ true)
    ready-ranked pr m t = grind (arith, list_all-at (partnered p x) pr net.pairs can m)

    module _ (o : List Leg) (os : List (List Leg)) (s : Solves net p (o ∷ os) (l ∷ ls)) where
      -- the other legs have one leg less above them, or as many as before
      others_shorter : (y : Leg) → same x y ≡ false → NoLonger (marks net (put p x (Some d)) (less x o ∷ os) y) (marks net p (o ∷ os) y)
      others_shorter y e = rw e (no_longer-else (p y) (delays net (less x o ∷ os) y) (delays net (o ∷ os) y) (fewer net lawful x y o os e))

      -- a pair of x's is in time by the test; any other was, and its delays are no longer
      exchange_meets : (pr : Pair) → Among pr net.pairs → met net (marks net (put p x (Some d)) (less x o ∷ os)) pr ≡ true
      exchange_meets pr m =
          elim (cases_Bool (touches x pr)) [
            | inl t ↦
                let both = ready-ranked pr m t in
                met-marked net (put p x (Some d)) (less x o ∷ os) pr (fit-meets net p l x d fits pr m t both.0 both.1)
            | inr t ↦
                let others = or_parts (same x pr.source) (same x pr.destination) t in
                met-shorter net (marks net (put p x (Some d)) (less x o ∷ os)) (marks net p (o ∷ os)) pr
                (others_shorter pr.source others.0) (others_shorter pr.destination others.1)
                (list_all-at (met net (marks net p (o ∷ os))) pr net.pairs s.pairs m)
          ]

      pub exchange : Solves net (put p x (Some d)) (less x o ∷ os) (less x l ∷ ls)
      exchange = record {
        orders = (order-less x o l s.orders.0, s.orders.1);
        ranked = λ y h. no_longer-some (delays net (less x o ∷ os) y) (delays net (o ∷ os) y)
            (fewer net lawful x y o os (open-other x y l ls stands.apart on h)) (s.ranked y (open-before x y l ls h));
        pairs = list_all-by (met net (marks net (put p x (Some d)) (less x o ∷ os))) net.pairs exchange_meets;
      }
