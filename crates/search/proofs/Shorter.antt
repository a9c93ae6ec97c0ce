-- The delay law, as a relation between delays: what has fewer legs above it has a delay that is no longer.
use Rattle.std.proofs.Common.{◌≡◌, ℕ, ◌≤◌, Bool, true, false, cond, List, [], ◌∷◌, is_some, Some, None, Option, sym, refl, ap, ◌∙◌, ap₂, inl, inr, arith}
use Rattle.std.proofs.lemmas.Bool.{cases_Bool, cond_both}
use Rattle.std.proofs.lemmas.Bool.Decides.{nat_tests}
use Rattle.search.specs.Net.{Leg, same, Pair, Net, has, less, Delays}
use Rattle.search.specs.Deadlines.{Order, delay_in, delays, in_time, met}
use Rattle.search.specs.Walk.{or_else}
use Rattle.search.specs.Laws.{Lawful}
use Rattle.search.proofs.Legs.{same-equal, has-less}
use Rattle.search.proofs.Orders.{order-has}

-- where b is a delay, a is one too, and no longer
abbrev pub NoLonger : Option ℕ → Option ℕ → Type 0
NoLonger a b = (d : ℕ) → b ≡ Some d → (e : ℕ) × (a ≡ Some e) × (e ≤ d)

pub no_longer-itself : (a : Option ℕ) → NoLonger a a
no_longer-itself a d h = (d, h, omega arith)

pub no_longer-some : (a b : Option ℕ) → NoLonger a b → is_some b ≡ true → is_some a ≡ true
no_longer-some a None n h = grind arith
no_longer-some a (Some d) n h = ap is_some (n d refl).1

pub no_longer-else : (a b c : Option ℕ) → NoLonger b c → NoLonger (or_else a b) (or_else a c)
no_longer-else None b c n = n
no_longer-else (Some a) b c n = no_longer-itself (Some a)

pub no_longer-first : (a b : Option ℕ) → NoLonger (or_else a b) a
no_longer-first None b = λ d h. grind arith
no_longer-first (Some a) b = no_longer-itself (Some a)

no_longer-cond : (t : Bool) (a b c d : Option ℕ) → NoLonger a c → NoLonger b d → NoLonger (cond t a b) (cond t c d)
no_longer-cond true a b c d n m = n
no_longer-cond false a b c d n m = m

-- ---------------------------------------------------------------- a pair by two tables of delays
in_time-shorter : (g due : ℕ) (a b c d : Option ℕ) → NoLonger a c → NoLonger b d → in_time g due c d ≡ true → in_time g due a b ≡ true
in_time-shorter g due a b None d n m h = grind arith
in_time-shorter g due a b (Some c) None n m h = grind arith
in_time-shorter g due a b (Some c) (Some d) n m h = grind (arith, nat_tests, n c refl, m d refl)

module _ (net : Net) (q r : Delays) (pr : Pair) where
  -- a pair that is in time stays so where its delays get no longer
  pub met-shorter : NoLonger (q pr.source) (r pr.source) → NoLonger (q pr.destination) (r pr.destination) →
      met net r pr ≡ true → met net q pr ≡ true
  met-shorter =
      in_time-shorter net.gateway pr.deadline (q pr.source) (q pr.destination) (r pr.source) (r pr.destination)

  pub met-same : q pr.source ≡ r pr.source → q pr.destination ≡ r pr.destination → met net r pr ≡ true → met net q pr ≡ true
  met-same a b h = ap₂ (in_time net.gateway pr.deadline) a b ∙ h

-- ---------------------------------------------------------------- the delay law
module _ (net : Net) (lawful : Lawful net) where
  -- the same legs above give the same delay
  delay_same : (x : Leg) (h k : List Leg) → ((y : Leg) → has y h ≡ has y k) → net.delay x h ≡ net.delay x k
  delay_same x h k e = go (net.delay x h) (net.delay x k) refl refl
    where
      down : NoLonger (net.delay x h) (net.delay x k)
      down d = lawful.shorter x h k d (λ y m. sym (e y) ∙ m)

      up : NoLonger (net.delay x k) (net.delay x h)
      up d = lawful.shorter x k h d (λ y m. e y ∙ m)

      go : (a b : Option ℕ) → net.delay x h ≡ a → net.delay x k ≡ b → a ≡ b
      go None None ea eb = refl
      go None (Some b) ea eb = grind (arith, down b eb)
      go (Some a) None ea eb = grind (arith, up a ea)
      go (Some a) (Some b) ea eb = grind (arith, down b eb, up a ea)

  pub order-delay : (x : Leg) (o l : List Leg) → Order o l → net.delay x o ≡ net.delay x l
  order-delay x o l h = delay_same x o l (λ y. order-has y o l h)

  -- nothing above a leg gives it the shortest delay
  bare-in : (y : Leg) (o : List Leg) → NoLonger (net.delay y []) (delay_in net o y)
  bare-in y [] = λ d h. grind arith
  bare-in y (z ∷ o) =
      elim (cases_Bool (same z y)) [
        | inl e ↦ rw (e, same-equal z y e) (λ d. lawful.shorter y [] o d (λ x m. grind arith))
        | inr e ↦ rw e (bare-in y o)
      ]

  pub bare : (y : Leg) (os : List (List Leg)) → NoLonger (net.delay y []) (delays net os y)
  bare y [] = λ d h. grind arith
  bare y (o ∷ os) = cond_both (has y o) _ _ (NoLonger (net.delay y [])) (λ _. bare-in y o) (λ _. bare y os)

  -- a leg less in its order leaves the others' delays no longer
  fewer_in : (c y : Leg) (o : List Leg) → same c y ≡ false → NoLonger (delay_in net (less c o) y) (delay_in net o y)
  fewer_in c y [] h = no_longer-itself None
  fewer_in c y (z ∷ o) h =
      elim (cases_Bool (same c z)) [
        | inl e ↦ let other : same z y ≡ false = grind (arith, same-equal c z e) in rw (e, other) (fewer_in c y o h)
        | inr e ↦ rw e (no_longer-cond (same z y) (net.delay z (less c o)) (delay_in net (less c o) y) (net.delay z o) (delay_in net o y)
            (λ d. lawful.shorter z (less c o) o d (λ x m. grind (arith, has-less c x o))) (fewer_in c y o h))
      ]

  pub fewer : (c y : Leg) (o : List Leg) (os : List (List Leg)) → same c y ≡ false →
      NoLonger (delays net (less c o ∷ os) y) (delays net (o ∷ os) y)
  fewer c y o os h =
      let e : has y (less c o) ≡ has y o = grind (arith, has-less c y o) in
      rw e (no_longer-cond (has y o) (delay_in net (less c o) y) (delays net os y) (delay_in net o y) (delays net os y)
      (fewer_in c y o h) (no_longer-itself (delays net os y)))
