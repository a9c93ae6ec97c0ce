-- Where the walk ends with orders, they meet the net.
use Rattle.std.proofs.Common.{◌≡◌, ℕ, zero, suc, ◌≤◌, true, List, [], ◌∷◌, length, Some, None, sym, ◌∙◌, subst, arith}
use Rattle.search.specs.Net.{Leg, Net, has, less, Delays}
use Rattle.search.specs.Walk.{Walked, put, fit, ready, candidates, after, under, new_bus, walk_bus, walk_from}
use Rattle.search.specs.Laws.{Lawful, FoundMeets}
use Rattle.search.proofs.Legs.{less-shorter, has-candidates}
use Rattle.search.proofs.Marks.{Solves, meets-from_solves}
use Rattle.search.proofs.Ranking.{solves-new_bus, solves-below}
use Rattle.search.proofs.Fits.{fit-gets}
use Rattle.search.proofs.Sound.{Sound, sound-start, sound-next_bus, sound-ranked, sound-ended}
use Rattle.search.proofs.Testing.{mapped_some, testing-found}

module _ (net : Net) (lawful : Lawful net) where
  -- whatever orders k finds for the open legs ls solve them
  abbrev Finds : (Delays → Walked) → List (List Leg) → Type 0
  Finds k ls = (p : Delays) → Sound net p ls → (os : List (List Leg)) → (k p).outcome ≡ Some os → Solves net p os ls

  finds-new_bus : (k : Delays → Walked) (ls : List (List Leg)) → Finds k ls → Finds (λ p. after new_bus (k p)) ([] ∷ ls)
  finds-new_bus k ls f p s os h =
      let rest = mapped_some new_bus (k p).outcome os h in
      let solved = f p (sound-next_bus net p ls s) rest.0 rest.1 in
      subst (λ (v : List (List Leg)). Solves net p v ([] ∷ ls)) rest.2 (solves-new_bus net p rest.0 ls solved)

  finds-below : (p : Delays) (l : List Leg) (ls : List (List Leg)) (c : Leg) (d : ℕ) → Sound net p (l ∷ ls) → has c l ≡ true →
      fit net p l c ≡ Some d → (rest os : List (List Leg)) → under c rest ≡ os → Solves net (put p c (Some d)) rest (less c l ∷ ls) →
      Solves net p os (l ∷ ls)
  finds-below p l ls c d s on fits [] os e r = absurd r.orders
  finds-below p l ls c d s on fits (o ∷ rest) os e r =
      let solved = solves-below net lawful p l ls s.stands c on d (fit-gets net p l c d fits) o rest r in
      subst (λ (v : List (List Leg)). Solves net p v (l ∷ ls)) e solved

  finds-bus : (k : Delays → Walked) (ls : List (List Leg)) → Finds k ls → (n : ℕ) (l : List Leg) → length l ≤ n →
      Finds (λ p. walk_bus net n k p l) (l ∷ ls)
  finds-bus k ls f zero [] within p s os h = finds-new_bus k ls f p s os h
  finds-bus k ls f zero (y ∷ l) within p s os h = absurd (omega arith)
  finds-bus k ls f (suc n) [] within p s os h = finds-new_bus k ls f p s os h
  finds-bus k ls f (suc n) (y ∷ l) within p s os h =
      let next : Leg → ℕ → Walked = λ c d. walk_bus net n k (put p c (Some d)) (less c (y ∷ l)) in
      let came = testing-found (fit net p (y ∷ l)) (ready net p) (λ c d. after (under c) (next c d)) os (candidates net p (y ∷ l)) h in
      let c = came.leg in
      let d = came.delay in
      let on : has c (y ∷ l) ≡ true = sym (has-candidates net p c (y ∷ l)) ∙ came.among in
      let rest = mapped_some (under c) (next c d).outcome os came.outcome in
      let sound = sound-ranked net p (y ∷ l) ls s c on d came.fitted in
      let fewer : length (less c (y ∷ l)) ≤ n = omega (arith, less-shorter c (y ∷ l) on) in
      let solved = finds-bus k ls f n (less c (y ∷ l)) fewer (put p c (Some d)) sound rest.0 rest.1 in
      finds-below p (y ∷ l) ls c d s on came.fitted rest.0 os rest.2 solved

  finds-from : (ls : List (List Leg)) → Finds (walk_from net ls) ls
  finds-from [] p s os h =
      let nothing : [] ≡ os = cc in
      subst (λ (v : List (List Leg)). Solves net p v []) nothing (sound-ended net lawful p s)
  finds-from (l ∷ ls) p s os h = finds-bus (walk_from net ls) ls (finds-from ls) (length l) l (omega arith) p s os h

pub found-meets : FoundMeets
found-meets net lawful os h =
    meets-from_solves net lawful os (finds-from net lawful net.buses (λ _. None) (sound-start net lawful) os h)
