-- The ranked legs of a board whose walk is complete: legs of the board, each once, and all of them.
use Rattle.std.proofs.Common.{◌≡◌, ℕ, Bool, true, ◌&&◌, ltb, leb, List, map, reverse, is_some, sym, ap, ◌∙◌, arith}
use Rattle.std.proofs.lemmas.Bool.{and_parts, and_from, le-leb, lt-ltb}
use Rattle.std.specs.List.{list_all}
use Rattle.std.proofs.lemmas.List.Folds.{list_all-map}
use Rattle.bus.specs.declared.message.Message.{Message}
use Rattle.search.specs.Net.{Leg, has, has_any}
use Rattle.search.specs.Laws.{Apart}
use Rattle.search.specs.Stored as walk
use Rattle.search.proofs.Lists.{list_all-at, list_all-by}
use Rattle.search.proofs.RankedLegs.{in_turn-is}
use Rattle.boards.specs.Nets.{net_legs, bus_numbers}
use Rattle.boards.proofs.Buses.{any_is, buses-apart}
use Rattle.boards.proofs.Elements.{numbers-is}
use Rattle.planner.specs.BusOrders.{leg_of_rank, are_legs}
use Rattle.planner.specs.Stages.{layout, stands}
use Rattle.planner.specs.Storage.{ranked_leg, ranked_of}
use Rattle.planner.specs.declared.ranked.Ranked.{Ranked}
use Rattle.planner.specs.declared.stage.Stage.TheVariants.{Complete}
use Rattle.planner.proofs.Reversed.{map-reverse, list_all-reverse}
use Rattle.planner.proofs.OrderTests.{distinct-reverse}
use Rattle.planner.proofs.RankedOnce.{has_any-placed, distinct-placed, stored-complete}
use Rattle.planner.proofs.StoredOrders.{in_turn-stored}

list_all-weaker : {X : Type 0} (f g : X → Bool) → ((x : X) → f x ≡ true → g x ≡ true) → (xs : List X) → list_all f xs ≡ true → list_all g xs ≡ true
list_all-weaker f g h xs e = list_all-by g xs (λ a m. h a (list_all-at f a xs e m))

-- of the legs as the board stores them
list_all-stored : (f : walk.Ranked → Bool) (rs : List Ranked) → list_all f (ranked_of rs) ≡ list_all (λ r. f (ranked_leg r)) rs
list_all-stored f rs = list_all-map f ranked_leg (reverse rs) ∙ list_all-reverse (λ r. f (ranked_leg r)) rs

module _ (n : ℕ) (ms : List Message) (rs : List Ranked) (h : stands n ms rs Complete ≡ true) where
  apart : Apart (layout n ms).buses
  apart = buses-apart ms 1 n

  placed : walk.placed (layout n ms) (ranked_of rs) ≡ true
  placed = (and_parts (walk.is_empty (walk.place_of (layout n ms) (ranked_of rs)).open') _ h).1

  on : list_all (λ r. has_any (leg_of_rank r) (layout n ms).buses) rs ≡ true
  on = sym (list_all-stored (λ w. has_any w.leg (layout n ms).buses) rs) ∙ has_any-placed (layout n ms) apart (ranked_of rs) placed

  pub shown-legs : are_legs ms rs ≡ true
  shown-legs = list_all-weaker _ (λ r. has (leg_of_rank r) (net_legs ms r.bus)) (λ r k. (any_is ms (leg_of_rank r) (bus_numbers n) k).1) rs on

  pub shown-buses : list_all (λ r. ltb 0 r.bus && leb r.bus n) rs ≡ true
  shown-buses =
      list_all-weaker _ (λ r. ltb 0 r.bus && leb r.bus n)
      (λ r k.
      let range = numbers-is r.bus 1 n (any_is ms (leg_of_rank r) (bus_numbers n) k).0 in
      and_from _ _ (lt-ltb 0 r.bus (omega (arith, range.0))) (le-leb r.bus n (omega (arith, range.1))))
      rs on

  pub shown-once : walk.distinct (map leg_of_rank rs) ≡ true
  shown-once =
      ap walk.distinct (sym (in_turn-stored rs) ∙ in_turn-is (ranked_of rs) ∙ map-reverse (λ w. w.leg) (ranked_of rs))
      ∙ distinct-reverse (map (λ w. w.leg) (ranked_of rs))
      ∙ distinct-placed (layout n ms) apart (ranked_of rs) placed

  pub shown-all : (x : Leg) → has_any x (layout n ms).buses ≡ true → is_some (walk.stored (ranked_of rs) x) ≡ true
  shown-all = stored-complete (layout n ms) apart (ranked_of rs) h
