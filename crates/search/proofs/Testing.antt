-- What the outcome of testing the candidates of a rank says of each candidate.
use Rattle.std.proofs.Common.{◌≡◌, ℕ, Bool, true, false, ◌⊎◌, List, [], ◌∷◌, Some, None, Option, refl, subst, inl, inr, arith}
use Rattle.std.specs.Option.{option_map}
use Rattle.std.proofs.lemmas.Bool.{or_left, or_right}
use Rattle.search.specs.Net.{Leg, same, has}
use Rattle.search.specs.Walk.{Walked, or_go_on, tested, test_all}
use Rattle.search.proofs.Legs.{same-itself, same-tells}

-- where an outcome was mapped
pub mapped_some : {X : Type 0} (f : X → X) (a : Option X) (b : X) → option_map f a ≡ Some b → (x : X) × (a ≡ Some x) × (f x ≡ b)
mapped_some f None b h = grind arith
mapped_some f (Some x) b h = (x, refl, cc)

pub mapped_none : {X : Type 0} (f : X → X) (a : Option X) → option_map f a ≡ None → a ≡ None
mapped_none f None h = refl
mapped_none f (Some x) h = grind arith

-- where a leg fitted: what the outcome says of its ranking and of the remaining candidates
some-either : (is_ready : Bool) (n : ℕ) (a : Option (List (List Leg))) (r : Walked) (os : List (List Leg)) →
    (or_go_on is_ready n a r).outcome ≡ Some os → (a ≡ Some os) ⊎ (r.outcome ≡ Some os)
some-either is_ready n (Some x) r os h = inl h
some-either true n None r os h = grind arith
some-either false n None r os h = inr h

none_both : (is_ready : Bool) (n : ℕ) (a : Option (List (List Leg))) (r : Walked) → (or_go_on is_ready n a r).outcome ≡ None →
    (a ≡ None) × ((is_ready ≡ true) ⊎ (r.outcome ≡ None))
none_both is_ready n (Some x) r h = grind arith
none_both true n None r h = (refl, inl refl)
none_both false n None r h = (refl, inr h)

module _ (fits : Leg → Option ℕ) (is_ready : Leg → Bool) (above : Leg → ℕ → Walked) where
  -- a candidate of cs fits, and its ranking came to the outcome o
  pub record Came (o : Option (List (List Leg))) (cs : List Leg) : Type 0 where
    pub leg : Leg
    pub delay : ℕ
    pub among : has leg cs ≡ true
    pub fitted : fits leg ≡ Some delay
    pub outcome : (above leg delay).outcome ≡ o

  this : (o : Option (List (List Leg))) (c : Leg) (cs : List Leg) (d : ℕ) → fits c ≡ Some d → (above c d).outcome ≡ o → Came o (c ∷ cs)
  this o c cs d e f = record { leg = c; delay = d; among = or_left (same c c) (has c cs) (same-itself c); fitted = e; outcome = f }

  later : (o : Option (List (List Leg))) (c : Leg) (cs : List Leg) → Came o cs → Came o (c ∷ cs)
  later o c cs r = record {
    leg = r.leg;
    delay = r.delay;
    among = or_right (same r.leg c) (has r.leg cs) r.among;
    fitted = r.fitted;
    outcome = r.outcome;
  }

  -- orders come of a candidate that fits
  pub testing-found : (os : List (List Leg)) (cs : List Leg) → (test_all fits is_ready above cs).outcome ≡ Some os → Came (Some os) cs
  testing-found os [] h = grind arith
  testing-found os (c ∷ cs) h = go (fits c) refl h (testing-found os cs)
    where
      go : (a : Option ℕ) → fits c ≡ a → (tested a (is_ready c) (above c) (test_all fits is_ready above cs)).outcome ≡ Some os →
          ((test_all fits is_ready above cs).outcome ≡ Some os → Came (Some os) cs) → Came (Some os) (c ∷ cs)
      go None e h rest = later (Some os) c cs (rest h)
      go (Some d) e h rest =
          elim (some-either (is_ready c) (above c d).tries (above c d).outcome (test_all fits is_ready above cs) os h) [
            | inl f ↦ this (Some os) c cs d e f
            | inr f ↦ later (Some os) c cs (rest f)
          ]

  -- none comes of any candidate that fits
  abbrev pub AllDead : List Leg → Type 0
  AllDead cs = (c : Leg) → has c cs ≡ true → (d : ℕ) → fits c ≡ Some d → (above c d).outcome ≡ None

  -- a ready candidate fits, and none comes of it
  abbrev pub ReadyDead : List Leg → Type 0
  ReadyDead cs = (r : Came None cs) × (is_ready r.leg ≡ true)

  with_later : (c : Leg) (cs : List Leg) → ((d : ℕ) → fits c ≡ Some d → (above c d).outcome ≡ None) → AllDead cs ⊎ ReadyDead cs →
      AllDead (c ∷ cs) ⊎ ReadyDead (c ∷ cs)
  unfolding later
  with_later c cs none (inr r) = inr (later None c cs r.0, r.1)
  with_later c cs none (inl all) = inl each
    where
      each : AllDead (c ∷ cs)
      each x m d e =
          elim (same-tells x c) [ inl t ↦ grind (arith, t.1, none d) | inr t ↦ all x (grind arith) d e ]

  -- where none comes of a rank, none comes of any candidate that fits, or none of a ready one
  pub testing-none : (cs : List Leg) → (test_all fits is_ready above cs).outcome ≡ None → AllDead cs ⊎ ReadyDead cs
  unfolding this
  testing-none [] h = inl (λ c m. grind arith)
  testing-none (c ∷ cs) h = go (fits c) refl h (testing-none cs)
    where
      go : (a : Option ℕ) → fits c ≡ a → (tested a (is_ready c) (above c) (test_all fits is_ready above cs)).outcome ≡ None →
          ((test_all fits is_ready above cs).outcome ≡ None → AllDead cs ⊎ ReadyDead cs) → AllDead (c ∷ cs) ⊎ ReadyDead (c ∷ cs)
      go None e h rest = with_later c cs (λ d f. grind arith) (rest h)
      go (Some d) e h rest =
          let both = none_both (is_ready c) (above c d).tries (above c d).outcome (test_all fits is_ready above cs) h in
          let none : (b : ℕ) → fits c ≡ Some b → (above c b).outcome ≡ None =
          λ b g. let one : d ≡ b = cc in subst (λ (v : ℕ). (above c v).outcome ≡ None) one both.0 in
          elim both.1 [ inl r ↦ inr (this None c cs d e both.0, r) | inr f ↦ with_later c cs none (rest f) ]
