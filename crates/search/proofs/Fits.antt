-- What it says that a leg fits, and that the lowest leg of a solution fits.
use Rattle.std.proofs.Common.{◌≡◌, ℕ, true, not, List, [], ◌∷◌, is_some, Some, None, Option, sym, refl, ◌∙◌, subst, inl, inr, arith}
use Rattle.std.proofs.lemmas.Bool.{or_left, or_right, cond-false}
use Rattle.std.specs.List.{list_all}
use Rattle.search.specs.Net.{Leg, same, Pair, Net, has, has_any, less, touches, Delays}
use Rattle.search.specs.Deadlines.{delays, met}
use Rattle.search.specs.Walk.{put, or_else, counted, passes, fit_at, fit}
use Rattle.search.specs.Laws.{Lawful}
use Rattle.search.proofs.Lists.{Among, list_all-at, list_all-by}
use Rattle.search.proofs.Legs.{same-itself, same-tells}
use Rattle.search.proofs.Shorter.{NoLonger, no_longer-itself, no_longer-else, met-shorter, met-same, order-delay, bare}
use Rattle.search.proofs.Open.{Open}
use Rattle.search.proofs.Marks.{marks, Solves}
use Rattle.search.proofs.Ranking.{lowest_delay}

fit_parts : (net : Net) (p : Delays) (x : Leg) (d : ℕ) (a : Option ℕ) → fit_at net p x a ≡ Some d →
    (a ≡ Some d) × (list_all (passes net p x d) net.pairs ≡ true)
fit_parts net p x d None h = grind arith
fit_parts net p x d (Some e) h = grind arith

module _ (net : Net) (p : Delays) (l : List Leg) (x : Leg) (d : ℕ) (fits : fit net p l x ≡ Some d) where
  pub fit-gets : net.delay x (less x l) ≡ Some d
  fit-gets = (fit_parts net p x d (net.delay x (less x l)) fits).0

  -- its pairs with ranked legs are in time once it is ranked
  pub fit-meets : (pr : Pair) → Among pr net.pairs → touches x pr ≡ true → is_some (put p x (Some d) pr.source) ≡ true →
      is_some (put p x (Some d) pr.destination) ≡ true → met net (put p x (Some d)) pr ≡ true
  fit-meets pr m t a b =
      met-same net (put p x (Some d)) (counted net p x d) pr (own pr.source a) (own pr.destination b)
      (grind (arith, list_all-at (passes net p x d) pr net.pairs (fit_parts net p x d (net.delay x (less x l)) fits).1 m))
    where
      own : (y : Leg) → is_some (put p x (Some d) y) ≡ true → put p x (Some d) y ≡ counted net p x d y
      own y h = grind arith

-- ---------------------------------------------------------------- the lowest leg of a solution fits
some-value : (a : Option ℕ) → is_some a ≡ true → (d : ℕ) × (a ≡ Some d)
some-value None h = grind arith
some-value (Some d) h = (d, refl)

module _ (net : Net) (lawful : Lawful net) (p : Delays) (l : List Leg) (ls : List (List Leg)) (stands : Open p (l ∷ ls))
    (x : Leg) (o : List Leg) (os : List (List Leg)) (s : Solves net p ((x ∷ o) ∷ os) (l ∷ ls))
  where
    module _ (d : ℕ) (is : delays net ((x ∷ o) ∷ os) x ≡ Some d) where
      lowest_gets : net.delay x (less x l) ≡ Some d
      lowest_gets =
          sym (order-delay net lawful x o (less x l) s.orders.0.1) ∙ sym (lowest_delay net x o os) ∙ is

      lowest_mark : marks net p ((x ∷ o) ∷ os) x ≡ Some d
      lowest_mark = grind (arith, is, stands.none x (or_left (has x l) (has_any x ls) s.orders.0.0))

      -- with nothing above them, the open legs' delays are no longer than in their orders
      counted-shorter : (y : Leg) → NoLonger (counted net p x d y) (marks net p ((x ∷ o) ∷ os) y)
      counted-shorter y =
          elim (same-tells x y) [
            | inl t ↦
                subst (λ (v : Leg). NoLonger (counted net p x d v) (marks net p ((x ∷ o) ∷ os) v)) t.1
                (rw (lowest_mark, same-itself x) (no_longer-itself (Some d)))
            | inr t ↦
                rw (cond-false (same x y) (Some d) (or_else (p y) (net.delay y [])) t)
                (no_longer-else (p y) (net.delay y []) (delays net ((x ∷ o) ∷ os) y) (bare net lawful y ((x ∷ o) ∷ os)))
          ]

      lowest_passes : (pr : Pair) → Among pr net.pairs → passes net p x d pr ≡ true
      lowest_passes pr m =
          or_right (not (touches x pr)) (met net (counted net p x d) pr)
          (met-shorter net (counted net p x d) (marks net p ((x ∷ o) ∷ os)) pr (counted-shorter pr.source) (counted-shorter pr.destination)
          (list_all-at (met net (marks net p ((x ∷ o) ∷ os))) pr net.pairs s.pairs m))

      lowest_fits_at : fit net p l x ≡ Some d
      lowest_fits_at = rw (lowest_gets, list_all-by (passes net p x d) net.pairs lowest_passes)

    pub lowest_fits : (d : ℕ) × (fit net p l x ≡ Some d)
    lowest_fits =
        let d = some-value (delays net ((x ∷ o) ∷ os) x) (s.ranked x (or_left (has x l) (has_any x ls) s.orders.0.0)) in
        (d.0, lowest_fits_at d.0 d.1)
