-- The lists of a net's buses: which legs they have, and that no leg is in two of them.
use Rattle.std.proofs.Common.{◌≡◌, ℕ, zero, suc, ◌<◌, true, false, List, [], ◌∷◌, map, sym, ◌∙◌, arith}
use Rattle.std.proofs.lemmas.List.Folds.{list_all-map}
use Rattle.std.proofs.lemmas.Bool.Decides.{nat_tests}
use Rattle.std.proofs.lemmas.Bool.{false_from_ne_true, true≢false}
use Rattle.bus.specs.declared.message.Message.{Message}
use Rattle.std.specs.List.{list_all}
use Rattle.search.specs.Net.{Leg, has, has_any}
use Rattle.search.specs.Laws.{Apart}
use Rattle.search.proofs.Lists.{Among, list_all-by}
use Rattle.boards.specs.Boards.{rising_messages}
use Rattle.search.specs.Stored.{distinct}
use Rattle.boards.specs.Nets.{net_legs, numbers_from}
use Rattle.boards.proofs.BusLegs.{has-bus, bus_distinct}
use Rattle.boards.proofs.Elements.{list_any-by, map_among, numbers-is}

module _ (ms : List Message) where
  pub has-its_bus : (x : Leg) (bus : ℕ) → has x (net_legs ms bus) ≡ true → x.bus ≡ bus
  has-its_bus x bus h = grind (arith, nat_tests, has-bus x ms bus)

  pub any_among : (x : Leg) (ks : List ℕ) → Among x.bus ks → has x (net_legs ms x.bus) ≡ true → has_any x (map (net_legs ms) ks) ≡ true
  any_among x ks m h = list_any-by (has x) (net_legs ms x.bus) (map (net_legs ms) ks) (map_among (net_legs ms) x.bus ks m) h

  pub any_is : (x : Leg) (ks : List ℕ) → has_any x (map (net_legs ms) ks) ≡ true → Among x.bus ks × (has x (net_legs ms x.bus) ≡ true)
  any_is x [] h = absurd (true≢false (sym h))
  any_is x (k ∷ ks) h = grind (arith, any_is x ks, has-its_bus x k)

  -- a leg of one bus is on none of those after it
  none_after : (x : Leg) (k n : ℕ) → x.bus < k → has_any x (map (net_legs ms) (numbers_from k n)) ≡ false
  none_after x k n h =
      false_from_ne_true _ (λ e. omega (arith, numbers-is x.bus k n (any_is x (numbers_from k n) e).0))

  pub buses-apart : (k n : ℕ) → Apart (map (net_legs ms) (numbers_from k n))
  buses-apart k zero = tt
  buses-apart k (suc n) =
      ((λ y h. none_after y (suc k) n (omega (arith, has-its_bus y k h))), buses-apart (suc k) n)

  pub buses-distinct : rising_messages ms ≡ true → (ks : List ℕ) → list_all distinct (map (net_legs ms) ks) ≡ true
  buses-distinct h ks = list_all-map distinct (net_legs ms) ks ∙ list_all-by _ ks (λ k among. bus_distinct ms k h)
