-- The bus of the next rank: the first, by rising number, that has an open leg.
use Rattle.std.proofs.Common.{◌≡◌, ℕ, zero, suc, ◌+◌, ◌-◌, ◌<◌, ◌≤◌, true, List, [], ◌∷◌, map, length, Some, None, sym, refl, ap, ◌∙◌, ap₂, arith}
use Rattle.std.specs.List.{filter}
use Rattle.bus.specs.declared.message.Message.{Message}
use Rattle.search.specs.Net.{Leg, Net, has, less, Delays}
use Rattle.search.specs.Walk.{candidates}
use Rattle.search.specs.Stored.{Ranked, head_of, unranked, or_next, first_open}
use Rattle.search.proofs.Counts.{candidates-count}
use Rattle.search.proofs.Legs.{has_kept}
use Rattle.search.proofs.RankedLegs.{unranked-less}
use Rattle.boards.specs.Nets.{net_legs, numbers_from}
use Rattle.boards.proofs.Buses.{has-its_bus}
use Rattle.planner.specs.Stages.{layout, buses_from}
use Rattle.planner.proofs.Destinations.{numbers_more}

module _ (ms : List Message) (rs : List Ranked) where
  -- the legs of a bus that are not ranked
  abbrev open_on : ℕ → List Leg
  open_on k = filter (unranked rs) (net_legs ms k)

  open-bus : (x : Leg) (k : ℕ) → has x (open_on k) ≡ true → x.bus ≡ k
  open-bus x k m = has-its_bus ms x k (grind (arith, has_kept x (unranked rs) (net_legs ms k)))

  -- where a leg is among the open legs of the next rank, these are the open legs of its bus
  pub open-its_bus : (x : Leg) (ks : List ℕ) → has x (first_open rs (map (net_legs ms) ks)) ≡ true →
      first_open rs (map (net_legs ms) ks) ≡ open_on x.bus
  open-its_bus x [] m = grind arith
  open-its_bus x (k ∷ ks) m = go (open_on k) refl m (open-its_bus x ks)
    where
      go : (l : List Leg) → open_on k ≡ l → has x (or_next l (first_open rs (map (net_legs ms) ks))) ≡ true →
          (has x (first_open rs (map (net_legs ms) ks)) ≡ true → first_open rs (map (net_legs ms) ks) ≡ open_on x.bus) →
          or_next l (first_open rs (map (net_legs ms) ks)) ≡ open_on x.bus
      go [] e m rest = rest m
      go (y ∷ l) e m rest = sym e ∙ ap open_on (sym (open-bus x k (ap (has x) e ∙ m)))

  -- the buses before its own are full, and stay so once a leg is ranked
  open-from : (r : Ranked) (x : Leg) (k n : ℕ) → has x (first_open rs (map (net_legs ms) (numbers_from k n))) ≡ true →
      first_open (r ∷ rs) (map (net_legs ms) (numbers_from k n))
      ≡ first_open (r ∷ rs) (map (net_legs ms) (numbers_from x.bus (k + n - x.bus)))
  open-from r x k zero m = grind arith
  open-from r x k (suc n) m = go (open_on k) refl m (open-from r x (suc k) n)
    where
      till : (a b c d : ℕ) → a ≡ b → c ≡ d →
          first_open (r ∷ rs) (map (net_legs ms) (numbers_from a c)) ≡ first_open (r ∷ rs) (map (net_legs ms) (numbers_from b d))
      till a b c d e f = ap₂ (λ i j. first_open (r ∷ rs) (map (net_legs ms) (numbers_from i j))) e f

      go : (l : List Leg) → open_on k ≡ l → has x (or_next l (first_open rs (map (net_legs ms) (numbers_from (suc k) n)))) ≡ true →
          (has x (first_open rs (map (net_legs ms) (numbers_from (suc k) n))) ≡ true →
          first_open (r ∷ rs) (map (net_legs ms) (numbers_from (suc k) n))
          ≡ first_open (r ∷ rs) (map (net_legs ms) (numbers_from x.bus (suc k + n - x.bus)))) →
          first_open (r ∷ rs) (map (net_legs ms) (numbers_from k (suc n)))
          ≡ first_open (r ∷ rs) (map (net_legs ms) (numbers_from x.bus (k + suc n - x.bus)))
      go [] e m rest =
          ap (λ (l : List Leg). or_next l (first_open (r ∷ rs) (map (net_legs ms) (numbers_from (suc k) n))))
          (unranked-less r rs (net_legs ms k) ∙ ap (less r.leg) e)
          ∙ rest m ∙ till x.bus x.bus (suc k + n - x.bus) (k + suc n - x.bus) refl (omega arith)
      go (y ∷ l) e m rest =
          let here = open-bus x k (ap (has x) e ∙ m) in
          till k x.bus (suc n) (k + suc n - x.bus) (sym here) (omega arith)

  pub open-from_its_bus : (count : ℕ) (r : Ranked) (x : Leg) → has x (first_open rs (layout count ms).buses) ≡ true →
      first_open (r ∷ rs) (layout count ms).buses ≡ first_open (r ∷ rs) (buses_from count ms x.bus)
  open-from_its_bus count r x m =
      let e : 1 + count - x.bus ≡ count + 1 - x.bus = omega arith in
      open-from r x 1 count m ∙ ap (λ n. first_open (r ∷ rs) (map (net_legs ms) (numbers_from x.bus n))) e

head_of-none : (cs : List Leg) → head_of cs ≡ None → length cs ≡ 0
head_of-none [] e = refl
head_of-none (c ∷ cs) e = grind arith

-- no leg of the list is left to test
pub candidates-none : (net : Net) (p : Delays) (l : List Leg) → head_of (candidates net p l) ≡ None → l ≡ []
candidates-none net p [] e = refl
candidates-none net p (y ∷ l) e = absurd (omega (arith, candidates-count net p (y ∷ l), head_of-none (candidates net p (y ∷ l)) e))

-- one is
pub or_next-candidates : (net : Net) (p : Delays) (l k : List Leg) (x : Leg) → head_of (candidates net p l) ≡ Some x → or_next l k ≡ l
or_next-candidates net p [] k x e = grind arith
or_next-candidates net p (y ∷ l) k x e = refl

-- ---------------------------------------------------------------- bus after bus
buses-more : (count : ℕ) (ms : List Message) (k : ℕ) → k ≤ count → buses_from count ms k ≡ net_legs ms k ∷ buses_from count ms (k + 1)
buses-more count ms k le = ap (map (net_legs ms)) (numbers_more k (count + 1) (omega arith))

pub buses-all : (count : ℕ) (ms : List Message) → (layout count ms).buses ≡ buses_from count ms 1
buses-all count ms =
    let e : count ≡ count + 1 - 1 = omega arith in
    ap (λ n. map (net_legs ms) (numbers_from 1 n)) e

buses-none : (count : ℕ) (ms : List Message) (k : ℕ) → count < k → buses_from count ms k ≡ []
buses-none count ms k lt =
    let e : count + 1 - k ≡ 0 = omega arith in
    ap (λ n. map (net_legs ms) (numbers_from k n)) e

module _ (count : ℕ) (ms : List Message) (rs : List Ranked) (k : ℕ) (net : Net) (p : Delays) (within : k ≤ count) where
  -- no leg of the bus is left to test
  pub bus_full : head_of (candidates net p (filter (unranked rs) (net_legs ms k))) ≡ None →
      first_open rs (buses_from count ms k) ≡ first_open rs (buses_from count ms (k + 1))
  bus_full e =
      ap (first_open rs) (buses-more count ms k within)
      ∙ ap (λ (l : List Leg). or_next l (first_open rs (buses_from count ms (k + 1)))) (candidates-none net p _ e)

  -- one is
  pub bus_open : (x : Leg) → head_of (candidates net p (filter (unranked rs) (net_legs ms k))) ≡ Some x →
      first_open rs (buses_from count ms k) ≡ filter (unranked rs) (net_legs ms k)
  bus_open x e = ap (first_open rs) (buses-more count ms k within) ∙ or_next-candidates net p (filter (unranked rs) (net_legs ms k)) _ x e

pub none_open : (count : ℕ) (ms : List Message) (rs : List Ranked) (k : ℕ) → count < k → first_open rs (buses_from count ms k) ≡ []
none_open count ms rs k lt = ap (first_open rs) (buses-none count ms k lt)
