-- What is tested next on a board, by its ranked legs alone: above them, and where the latest of them is taken back.
use Rattle.std.proofs.Common.{◌≡◌, ℕ, Bool, true, false, cond, List, [], ◌∷◌, map, Some, None, Option, sym, refl, ap, ◌∙◌, arith}
use Rattle.std.specs.List.{filter}
use Rattle.bus.specs.declared.message.Message.{Message}
use Rattle.search.specs.Net.{Leg, has, Delays}
use Rattle.search.specs.Walk.{ready, candidates}
use Rattle.search.specs.Stored.{
  Ranked,
  Stage,
  behind,
  place_of,
  tests_at,
  testing,
  complete,
  head_of,
  resume,
  but_for,
  retract,
  upwards,
  try_at,
  stored,
  unranked,
  first_open,
  or_next,
  placed,
}
use Rattle.search.proofs.Filled.{open-as_stored, at-as_stored, tests-as_stored}
use Rattle.search.proofs.Place.{was_open, placed_below}
use Rattle.boards.specs.Nets.{net_legs, bus_numbers}
use Rattle.boards.proofs.Buses.{buses-apart}
use Rattle.planner.specs.Stages.{layout, after_ranked}
use Rattle.planner.proofs.NextBus.{open-its_bus, or_next-candidates, candidates-none}

but_for-resume : (t : Bool) (rs : List Ranked) (o : Option Leg) (b : Stage) → but_for t b (resume rs o b) ≡ resume rs (cond t None o) b
but_for-resume true rs o b = refl
but_for-resume false rs o b = refl

module _ (count : ℕ) (ms : List Message) (rs : List Ranked) (k : placed (layout count ms) rs ≡ true) where
  pub open_on-board : (place_of (layout count ms) rs).open' ≡ first_open rs (layout count ms).buses
  open_on-board = open-as_stored (layout count ms) (buses-apart ms 1 count) rs k

  upwards-found : (l : List Leg) (x : Leg) → first_open rs (layout count ms).buses ≡ l →
      head_of (candidates (layout count ms) (stored rs) l) ≡ Some x →
      upwards (layout count ms) rs (place_of (layout count ms) rs).open' ≡ testing rs x
  upwards-found [] x e f = grind arith
  upwards-found (y ∷ l) x e f =
      let first : head_of (tests_at (layout count ms) rs) ≡ Some x =
      ap head_of (tests-as_stored (layout count ms) (buses-apart ms 1 count) rs k ∙ ap (candidates (layout count ms) (stored rs)) e) ∙ f in
      ap (upwards (layout count ms) rs) (open_on-board ∙ e)
      ∙ ap (λ (o : Option Leg). resume rs o (retract (layout count ms) rs)) first

  -- The first test above the ranked legs, where no bus before the next ones has an open leg: it is of a leg of the next bus, or of a later one;
  -- past the last bus there is none.
  module _ (bus : ℕ) (ks : List ℕ) (so : first_open rs (layout count ms).buses ≡ first_open rs (map (net_legs ms) (bus ∷ ks))) where
    pub upwards-here : (x : Leg) → Some x ≡ head_of (candidates (layout count ms) (stored rs) (filter (unranked rs) (net_legs ms bus))) →
        Some (testing rs x) ≡ Some (upwards (layout count ms) rs (place_of (layout count ms) rs).open')
    upwards-here x first =
        let here = so ∙ or_next-candidates (layout count ms) (stored rs) (filter (unranked rs) (net_legs ms bus)) _ x (sym first) in
        ap (λ (w : Stage). Some w) (sym (upwards-found (filter (unranked rs) (net_legs ms bus)) x here (sym first)))

    pub first_open-later : None ≡ head_of (candidates (layout count ms) (stored rs) (filter (unranked rs) (net_legs ms bus))) →
        first_open rs (layout count ms).buses ≡ first_open rs (map (net_legs ms) ks)
    first_open-later none =
        so ∙ ap (λ (l : List Leg). or_next l (first_open rs (map (net_legs ms) ks)))
        (candidates-none (layout count ms) (stored rs) (filter (unranked rs) (net_legs ms bus)) (sym none))

  pub upwards-past : first_open rs (layout count ms).buses ≡ [] →
      Some (complete rs) ≡ Some (upwards (layout count ms) rs (place_of (layout count ms) rs).open')
  upwards-past so = ap (λ (l : List Leg). Some (upwards (layout count ms) rs l)) (sym (open_on-board ∙ so))

  module _ (x : Leg) (on : has x (place_of (layout count ms) rs).open' ≡ true) where
    pub open-beside : first_open rs (layout count ms).buses ≡ filter (unranked rs) (net_legs ms x.bus)
    open-beside = open-its_bus ms rs x (bus_numbers count) (ap (has x) (sym open_on-board) ∙ on)

    pub leg-open : has x (filter (unranked rs) (net_legs ms x.bus)) ≡ true
    leg-open = ap (has x) (sym open-beside) ∙ ap (has x) (sym open_on-board) ∙ on

    -- what is computed from the delays and the open legs of the place
    at-leg : {X : Type 0} (f : Delays → List Leg → X) →
        f (place_of (layout count ms) rs).delays (place_of (layout count ms) rs).open'
        ≡ f (stored rs) (filter (unranked rs) (net_legs ms x.bus))
    at-leg f = at-as_stored f (layout count ms) (buses-apart ms 1 count) rs k ∙ ap (f (stored rs)) open-beside

    -- x was tested, and does not fit
    pub try_at-next : try_at (layout count ms) rs x None
        ≡ resume rs (head_of (behind x (candidates (layout count ms) (stored rs) (filter (unranked rs) (net_legs ms x.bus)))))
        (retract (layout count ms) rs)
    try_at-next = at-leg (λ p l. resume rs (head_of (behind x (candidates (layout count ms) p l))) (retract (layout count ms) rs))

-- the ranking of r is taken back
pub retract-next : (count : ℕ) (ms : List Message) (r : Ranked) (rs : List Ranked) → placed (layout count ms) (r ∷ rs) ≡ true →
    retract (layout count ms) (r ∷ rs)
    ≡ resume rs (after_ranked (layout count ms) rs (filter (unranked rs) (net_legs ms r.leg.bus)) r.leg) (retract (layout count ms) rs)
retract-next count ms r rs k =
    let net = layout count ms in
    but_for-resume (ready net (place_of net rs).delays r.leg) rs (head_of (behind r.leg (tests_at net rs))) (retract net rs)
    ∙ at-leg count ms rs (placed_below net r rs k) r.leg (was_open net r rs k)
    (λ p l. resume rs (cond (ready net p r.leg) None (head_of (behind r.leg (candidates net p l)))) (retract net rs))
