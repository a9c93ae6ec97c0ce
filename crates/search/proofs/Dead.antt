-- Where the walk ends with none, no orders meet the net.
use Rattle.std.proofs.Common.{◌≡◌, ℕ, zero, suc, ◌≤◌, true, List, [], ◌∷◌, length, Some, None, sym, refl, ◌∙◌, inl, inr, arith}
use Rattle.search.specs.Net.{Leg, Net, has, less, Delays}
use Rattle.search.specs.Walk.{Walked, put, fit, ready, candidates, after, under, new_bus, walk_bus, walk_from}
use Rattle.search.specs.Laws.{Lawful, NoneMeets}
use Rattle.search.proofs.Legs.{less-shorter, has-candidates}
use Rattle.search.proofs.Open.{Open, open-ranked, open-next_bus}
use Rattle.search.proofs.Marks.{Solves, solves-from_meets}
use Rattle.search.proofs.Ranking.{solves-next_bus, solves-above}
use Rattle.search.proofs.Fits.{fit-gets, lowest_fits}
use Rattle.search.proofs.Exchange.{exchange}
use Rattle.search.proofs.Testing.{mapped_none, AllDead, ReadyDead, testing-none}

module _ (net : Net) (lawful : Lawful net) where
  -- nothing solves the open legs ls from p
  abbrev NoneSolves : Delays → List (List Leg) → Type 0
  NoneSolves p ls = (os : List (List Leg)) → Solves net p os ls → ⊥

  -- wherever k finds none for the open legs ls, nothing solves them
  abbrev Dead : (Delays → Walked) → List (List Leg) → Type 0
  Dead k ls = (p : Delays) → Open p ls → (k p).outcome ≡ None → NoneSolves p ls

  dead-new_bus : (k : Delays → Walked) (ls : List (List Leg)) → Dead k ls → Dead (λ p. after new_bus (k p)) ([] ∷ ls)
  dead-new_bus k ls f p s h [] r = r.orders
  dead-new_bus k ls f p s h ([] ∷ os) r =
      f p (open-next_bus p ls s) (mapped_none new_bus (k p).outcome h) os (solves-next_bus net p os ls r)
  dead-new_bus k ls f p s h ((x ∷ o) ∷ os) r = grind (arith, r.orders.0.0)

  -- wherever none comes of ranking a leg of l, nothing solves the legs above it
  abbrev DeadAbove : (Leg → ℕ → Walked) → Delays → List Leg → List (List Leg) → Type 0
  DeadAbove above p l ls = (c : Leg) → has c l ≡ true → (d : ℕ) → (above c d).outcome ≡ None → NoneSolves (put p c (Some d)) (less c l ∷ ls)

  module _ (p : Delays) (l : List Leg) (ls : List (List Leg)) (s : Open p (l ∷ ls)) (above : Leg → ℕ → Walked)
      (dead : DeadAbove above p l ls)
    where
      -- where all that fit come to none: the lowest leg of a solution would fit
      dead-all : AllDead (fit net p l) (ready net p) above (candidates net p l) → (x : Leg) (o : List Leg) (os : List (List Leg)) →
          Solves net p ((x ∷ o) ∷ os) (l ∷ ls) → ⊥
      dead-all all x o os r =
          let on = r.orders.0.0 in
          let fits = lowest_fits net lawful p l ls s x o os r in
          let none = all x (has-candidates net p x l ∙ on) fits.0 fits.1 in
          let gets = fit-gets net p l x fits.0 fits.1 in
          dead x on fits.0 none (o ∷ os) (solves-above net lawful p l ls s x on fits.0 gets o os r)

      -- where a ready one fits and comes to none: a solution could have it lowest
      dead-ready : ReadyDead (fit net p l) (ready net p) above (candidates net p l) → (o : List Leg) (os : List (List Leg)) →
          Solves net p (o ∷ os) (l ∷ ls) → ⊥
      dead-ready (came, can) o os r =
          let c = came.leg in
          let d = came.delay in
          let on : has c l ≡ true = sym (has-candidates net p c l) ∙ came.among in
          dead c on d came.outcome (less c o ∷ os) (exchange net lawful p l ls s c on d came.fitted can o os r)

  dead-bus : (k : Delays → Walked) (ls : List (List Leg)) → Dead k ls → (n : ℕ) (l : List Leg) → length l ≤ n →
      Dead (λ p. walk_bus net n k p l) (l ∷ ls)
  dead-bus k ls f zero [] within p s h os r = dead-new_bus k ls f p s h os r
  dead-bus k ls f zero (y ∷ l) within p s h os r = omega arith
  dead-bus k ls f (suc n) [] within p s h os r = dead-new_bus k ls f p s h os r
  dead-bus k ls f (suc n) (y ∷ l) within p s h [] r = r.orders
  dead-bus k ls f (suc n) (y ∷ l) within p s h ([] ∷ os) r = grind (arith, r.orders.0)
  dead-bus k ls f (suc n) (y ∷ l) within p s h ((x ∷ o) ∷ os) r =
      let next : Leg → ℕ → Walked = λ c d. walk_bus net n k (put p c (Some d)) (less c (y ∷ l)) in
      let above : Leg → ℕ → Walked = λ c d. after (under c) (next c d) in
      let fewer : (c : Leg) → has c (y ∷ l) ≡ true → length (less c (y ∷ l)) ≤ n = λ c on. omega (arith, less-shorter c (y ∷ l) on) in
      let dead : DeadAbove above p (y ∷ l) ls =
      λ c on d e. dead-bus k ls f n (less c (y ∷ l)) (fewer c on) (put p c (Some d)) (open-ranked p c (Some d) (y ∷ l) ls s on)
      (mapped_none (under c) (next c d).outcome e) in
      elim (testing-none (fit net p (y ∷ l)) (ready net p) above (candidates net p (y ∷ l)) h)
      [ inl all ↦ dead-all p (y ∷ l) ls s above dead all x o os r | inr came ↦ dead-ready p (y ∷ l) ls s above dead came (x ∷ o) os r ]

  dead-from : (ls : List (List Leg)) → Dead (walk_from net ls) ls
  dead-from [] p s h os r = grind arith
  dead-from (l ∷ ls) p s h os r = dead-bus (walk_from net ls) ls (dead-from ls) (length l) l (omega arith) p s h os r

pub none-meets : NoneMeets
none-meets net lawful h os m =
    let open-all : Open (λ _. None) net.buses = record { apart = lawful.apart; none = λ y on. refl } in
    dead-from net lawful net.buses (λ _. None) open-all h os (solves-from_meets net lawful os m)
