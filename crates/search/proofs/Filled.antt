-- How far the buses are filled: those before the one being filled are full, and its open legs are those that are not ranked. So the open
-- legs and the orders can be told from the ranked legs alone.
use Rattle.std.proofs.Common.{◌≡◌, true, false, List, [], ◌∷◌, ◌++◌, map, Some, None, sym, refl, ap, ◌∙◌, subst, ap₂, arith}
use Rattle.std.specs.List.{filter}
use Rattle.std.proofs.lemmas.List.{append-nil, append_assoc, map-append}
use Rattle.std.proofs.lemmas.List.Folds.{list_any-append}
use Rattle.std.proofs.lemmas.Bool.{or_left}
use Rattle.search.specs.Net.{Leg, Net, has, has_any, less, Delays}
use Rattle.search.specs.Walk.{candidates}
use Rattle.search.specs.Laws.{Apart}
use Rattle.search.specs.Machine.{Frame, rank, bus, plug}
use Rattle.search.specs.Stored.{
  Ranked,
  advance,
  filled_by,
  first_place,
  place_of,
  tests_at,
  orders_at,
  placed,
  stored,
  unranked,
  or_next,
  first_open,
  order_of,
  orders_of,
}
use Rattle.search.proofs.Legs.{has_kept}
use Rattle.search.proofs.Open.{Open, open-next_bus, open-ranked}
use Rattle.search.proofs.RankedLegs.{unranked-less, unranked-all, open-append, full_still, order-more, orders-same, order-none}
use Rattle.search.proofs.Place.{advance-keeps, place-delays, place-ends, placed_below, was_open, open_at}

-- ---------------------------------------------------------------- buses apart
-- a leg of one bus is on none before it
apart-before : (done : List (List Leg)) (l : List Leg) (ls : List (List Leg)) → Apart (done ++ l ∷ ls) → (x : Leg) → has x l ≡ true →
    has_any x done ≡ false
apart-before [] l ls a x on = refl
apart-before (b ∷ done) l ls a x on =
    grind (arith, apart-before done l ls a.1 x on, a.0 x, list_any-append (has x) done (l ∷ ls))

-- ---------------------------------------------------------------- how far the buses are filled
-- Of the buses bs, some are full; the next has the open legs l; ls come after it. Below the orders o ∷ os of the open legs, the ranks fs
-- are filled by the ranked legs, in turn.
record Filled (bs : List (List Leg)) (rs : List Ranked) (fs : List Frame) (l : List Leg) (ls : List (List Leg)) : Type 0 where
  done : List (List Leg)
  this : List Leg
  split : bs ≡ done ++ this ∷ ls
  full : first_open rs done ≡ []
  opens : filter (unranked rs) this ≡ l
  orders : (o : List Leg) (os : List (List Leg)) → plug fs (o ∷ os) ≡ map (order_of rs) done ++ (order_of rs this ++ o) ∷ os

filled-next_bus : (bs : List (List Leg)) (rs : List Ranked) (fs : List Frame) (l : List Leg) (ls : List (List Leg)) →
    Open (stored rs) ([] ∷ l ∷ ls) → Filled bs rs fs [] (l ∷ ls) → Filled bs rs (bus ∷ fs) l ls
filled-next_bus bs rs fs l ls o f =
    record {
      done = f.done ++ f.this ∷ [];
      this = l;
      split = f.split ∙ sym (append_assoc f.done (f.this ∷ []) (l ∷ ls));
      full = open-append rs f.done (f.this ∷ []) ∙ grind (arith, f.full, f.opens);
      opens = unranked-all rs l new;
      orders = orders;
    }
  where
    new : (y : Leg) → has y l ≡ true → stored rs y ≡ None
    new y m = o.none y (or_left (has y l) (has_any y ls) m)

    orders : (k : List Leg) (os : List (List Leg)) →
        plug (bus ∷ fs) (k ∷ os) ≡ map (order_of rs) (f.done ++ f.this ∷ []) ++ (order_of rs l ++ k) ∷ os
    orders k os = f.orders [] (k ∷ os) ∙ rw (order-none rs l new) (rw (map-append, append_assoc, append-nil))

filled-advance : (bs : List (List Leg)) (rs : List Ranked) (fs : List Frame) (p : Delays) (l : List Leg) (ls : List (List Leg)) →
    Open (stored rs) (l ∷ ls) → Filled bs rs fs l ls →
    let at = advance fs p l ls in
    Filled bs rs at.frames at.open' at.later
filled-advance bs rs fs p l ls o f =
    let keeps = advance-keeps (λ fs _ l ls. Open (stored rs) (l ∷ ls) × Filled bs rs fs l ls)
    (λ fs p l ls h. (open-next_bus (stored rs) (l ∷ ls) h.0, filled-next_bus bs rs fs l ls h.0 h.1)) fs p l ls (o, f) in
    keeps.1

filled-first : (l : List Leg) (ls : List (List Leg)) → Filled (l ∷ ls) [] [] l ls
filled-first l ls = record {
  done = [];
  this = l;
  split = refl;
  full = refl;
  opens = unranked-all [] l (λ y m. refl);
  orders = λ o os. refl;
}

filled-rank : (bs : List (List Leg)) → Apart bs → (r : Ranked) (rs : List Ranked) (fs : List Frame) (l : List Leg) (ls : List (List Leg)) →
    has r.leg l ≡ true → Filled bs rs fs l ls →
    (p : Delays) (k : List Leg) (ks : List (List Leg)) (cs : List Leg) → Filled bs (r ∷ rs) (rank p k ks r.leg cs ∷ fs) (less r.leg l) ls
filled-rank bs a r rs fs l ls on f p k ks cs =
    record {
      done = f.done;
      this = f.this;
      split = f.split;
      full = full_still r rs f.done f.full;
      opens = unranked-less r rs f.this ∙ ap (less r.leg) f.opens;
      orders = orders;
    }
  where
    here : has r.leg f.this ≡ true
    here = grind (arith, ap (has r.leg) f.opens, has_kept r.leg (unranked rs) f.this)

    before : has_any r.leg f.done ≡ false
    before = apart-before f.done f.this ls (subst Apart f.split a) r.leg here

    orders : (o : List Leg) (os : List (List Leg)) →
        plug (rank p k ks r.leg cs ∷ fs) (o ∷ os) ≡ map (order_of (r ∷ rs)) f.done ++ (order_of (r ∷ rs) f.this ++ o) ∷ os
    orders o os =
        f.orders (r.leg ∷ o) os
        ∙ rw (orders-same r rs f.done before, order-more r rs f.this here) (rw append_assoc)

-- ---------------------------------------------------------------- the place above the ranked legs
filled-at_first : (bs : List (List Leg)) (l : List Leg) (ls : List (List Leg)) → bs ≡ l ∷ ls → Apart bs →
    let at = first_place bs in
    Filled (l ∷ ls) [] at.frames at.open' at.later
filled-at_first bs l ls e a =
    let P : List (List Leg) → Type 0 = λ v. Filled (l ∷ ls) [] (first_place v).frames (first_place v).open' (first_place v).later in
    subst P (sym e)
    (filled-advance (l ∷ ls) [] [] (λ _. None) l ls (record { apart = subst Apart e a; none = λ y m. refl }) (filled-first l ls))

module _ (net : Net) (l : List Leg) (ls : List (List Leg)) (e : net.buses ≡ l ∷ ls) (a : Apart net.buses) where
  filled_at : (rs : List Ranked) → placed net rs ≡ true →
      let at = place_of net rs in
      Filled (l ∷ ls) rs at.frames at.open' at.later
  filled_at [] k = filled-at_first net.buses l ls e a
  filled_at (r ∷ rs) k =
      let at = place_of net rs in
      let on = was_open net r rs k in
      let opened : Open (stored rs) (at.open' ∷ at.later) =
      subst (λ (p : Delays). Open p (at.open' ∷ at.later)) (place-delays net rs) (open_at net a rs (placed_below net r rs k)) in
      filled-advance (l ∷ ls) (r ∷ rs) (filled_by net at r.leg ∷ at.frames) _ (less r.leg at.open') at.later
      (open-ranked (stored rs) r.leg (Some r.delay) at.open' at.later opened on)
      (filled-rank (l ∷ ls) (subst Apart e a) r rs at.frames at.open' at.later on (filled_at rs (placed_below net r rs k)) _ _ _ _)

-- in a net without buses no leg is ranked
none-ranked : (net : Net) → net.buses ≡ [] → (rs : List Ranked) → placed net rs ≡ true → rs ≡ []
none-ranked net e [] k = refl
none-ranked net e (r ∷ rs) k =
    let none = none-ranked net e rs (placed_below net r rs k) in
    let nothing : (place_of net rs).open' ≡ [] =
    ap (λ (v : List Ranked). (place_of net v).open') none ∙ ap (λ (v : List (List Leg)). (first_place v).open') e in
    grind (arith, was_open net r rs k, ap (has r.leg) nothing)

or_next-nil : (h k : List Leg) → (h ≡ [] → k ≡ []) → or_next h k ≡ h
or_next-nil [] k f = f refl
or_next-nil (x ∷ h) k f = refl

-- the open legs are the unranked legs of the first bus that has any
pub open-as_stored : (net : Net) → Apart net.buses → (rs : List Ranked) → placed net rs ≡ true →
    (place_of net rs).open' ≡ first_open rs net.buses
open-as_stored net a rs k = go net.buses refl
  where
    go : (bs : List (List Leg)) → net.buses ≡ bs → (place_of net rs).open' ≡ first_open rs net.buses
    go [] e =
        ap (λ (v : List Ranked). (place_of net v).open') (none-ranked net e rs k)
        ∙ ap (λ (v : List (List Leg)). (first_place v).open') e ∙ ap (first_open rs) (sym e)
    go (l ∷ ls) e =
        let at = place_of net rs in
        let f = filled_at net l ls e a rs k in
        let rest : first_open rs (f.done ++ f.this ∷ at.later) ≡ or_next at.open' (first_open rs at.later) =
        open-append rs f.done (f.this ∷ at.later) ∙ rw (f.full, f.opens) refl in
        sym (or_next-nil at.open' (first_open rs at.later) (λ none. ap (first_open rs) (place-ends net rs none)))
        ∙ sym rest ∙ ap (first_open rs) (sym (e ∙ f.split))

-- where all legs are ranked, the orders are the ranked legs of each bus
pub orders-as_stored : (net : Net) → Apart net.buses → (rs : List Ranked) → placed net rs ≡ true → (place_of net rs).open' ≡ [] →
    orders_at net.buses (place_of net rs).frames ≡ orders_of net rs
orders-as_stored net a rs k none = go net.buses refl
  where
    go : (bs : List (List Leg)) → net.buses ≡ bs → orders_at net.buses (place_of net rs).frames ≡ orders_of net rs
    go [] e =
        let nothing : (place_of net rs).frames ≡ [] =
        ap (λ (v : List Ranked). (place_of net v).frames) (none-ranked net e rs k) ∙ ap (λ (v : List (List Leg)). (first_place v).frames) e in
        ap (λ (v : List (List Leg)). orders_at v (place_of net rs).frames) e ∙ ap (orders_at []) nothing ∙ ap (map (order_of rs)) (sym e)
    go (l ∷ ls) e =
        let f = filled_at net l ls e a rs k in
        let all : net.buses ≡ f.done ++ f.this ∷ [] =
        e ∙ f.split ∙ ap (λ (v : List (List Leg)). f.done ++ f.this ∷ v) (place-ends net rs none) in
        let each : map (order_of rs) f.done ++ (order_of rs f.this ++ []) ∷ [] ≡ map (order_of rs) (f.done ++ f.this ∷ []) =
        rw (append-nil, map-append) in
        ap (λ (v : List (List Leg)). orders_at v (place_of net rs).frames) e ∙ f.orders [] [] ∙ each ∙ ap (map (order_of rs)) (sym all)

-- what is computed from the delays and the open legs of a place can be computed from the ranked legs alone
pub at-as_stored : {X : Type 0} (f : Delays → List Leg → X) (net : Net) → Apart net.buses → (rs : List Ranked) → placed net rs ≡ true →
    f (place_of net rs).delays (place_of net rs).open' ≡ f (stored rs) (first_open rs net.buses)
at-as_stored f net a rs k = ap₂ f (place-delays net rs) (open-as_stored net a rs k)

pub tests-as_stored : (net : Net) → Apart net.buses → (rs : List Ranked) → placed net rs ≡ true →
    tests_at net rs ≡ candidates net (stored rs) (first_open rs net.buses)
tests-as_stored net a rs k = at-as_stored (candidates net) net a rs k
