-- The net of a sound board is lawful.
use Rattle.std.proofs.Common.{◌≡◌, ℕ, ◌^◌, ◌<◌, ◌≤◌, true, ◌&&◌, ◌||◌, eqb, sym, refl, ◌∙◌, subst, inl, inr, arith}
use Rattle.std.specs.List.{list_all, list_any, filter}
use Rattle.std.proofs.lemmas.List.Folds.{list_all-map}
use Rattle.std.proofs.lemmas.Bool.Decides.{nat_tests}
use Rattle.std.proofs.lemmas.Bool.{and_parts, and_from, or_left, or_right, or_cases, cases_Bool, eqb-true}
use Rattle.bus.specs.Legs.{legs_on}
use Rattle.bus.specs.Numbered.{member}
use Rattle.bus.specs.declared.message.Message.{Message}
use Rattle.bus.proofs.Members.{member-above}
use Rattle.search.specs.Net.{Leg, Pair, same, has, has_any, touches}
use Rattle.search.proofs.Legs.{same-itself}
use Rattle.search.proofs.Lists.{Among, list_all-at, list_all-by, list_any_is}
use Rattle.boards.specs.Boards.{Board, bus_count, on_board, Sound}
use Rattle.boards.specs.Nets.{leg_at, net_legs, bus_numbers, source_leg, is_local, destinations_of, pair_to, pairs_of, net_of}
use Rattle.boards.specs.Laws.{BoardLawful}
use Rattle.boards.proofs.BusLegs.{legs_rise, on, meant, has-bus}
use Rattle.boards.proofs.Buses.{any_among, any_is, buses-apart}
use Rattle.boards.proofs.Elements.{list_any-by, kept-among, kept-is, map_among, map_is, joined_among, joined_is, has-among, numbers-among, numbers-is}
use Rattle.boards.proofs.RuleAt.{rule_at-keeps}
use Rattle.boards.proofs.Sets.{some-member}

leg-equal : (x : Leg) (bus n : ℕ) → x.bus ≡ bus → x.message ≡ n → x ≡ leg_at bus n
leg-equal x bus n p q = λ i. record { bus = p i; message = q i }

module _ (b : Board) (sound : Sound b) where
  home : (m : Message) → Among m b.messages → (m.source ≤ bus_count b) × (m.destinations < 2 ^ bus_count b)
  home m among = grind (arith, nat_tests, list_all-at (on_board (bus_count b)) m b.messages sound.messages.on_buses among)

  -- a bus of the board on which a message has a leg
  has-leg : (m : Message) → Among m b.messages → (k : ℕ) → 1 ≤ k → k ≤ bus_count b → on k m ≡ true →
      has_any (leg_at k m.number) (net_of b).buses ≡ true
  has-leg m among k low high h =
      let n = m.number in
      let listed : has (leg_at k n) (net_legs b.messages k) ≡ true =
      grind (arith, nat_tests, has-bus (leg_at k n) b.messages k, list_any-by (meant k n) m b.messages among) in
      any_among b.messages (leg_at k n) (bus_numbers (bus_count b)) (numbers-among k 1 (bus_count b) low (omega arith)) listed

  has-source : (m : Message) → Among m b.messages → has_any (source_leg m) (net_of b).buses ≡ true
  has-source m among =
      has-leg m among m.source m.source_range.0 (home m among).0 (grind (arith, nat_tests))

  destination_home : (m : Message) → Among m b.messages → (k : ℕ) → member m.destinations k ≡ true → k ≤ bus_count b
  destination_home m among k h = grind (arith, home m among, member-above (bus_count b) m.destinations k)

  has-pair : (m : Message) → Among m b.messages → (k : ℕ) → 1 ≤ k → k ≤ bus_count b → member m.destinations k ≡ true →
      Among (pair_to m k) (net_of b).pairs
  has-pair m among k low high h =
      joined_among pairs_of m (pair_to m k) b.messages among
      (map_among (pair_to m) k (destinations_of m)
      (kept-among (member m.destinations) k (bus_numbers 8) (numbers-among k 1 8 low (omega (arith, sound.few))) h))

  -- the source leg of a message is a local message's or in a pair
  source_met : (m : Message) → Among m b.messages → (has (source_leg m) (net_of b).locals || list_any (touches (source_leg m)) (net_of b).pairs) ≡ true
  source_met m among =
      elim (cases_Bool (is_local m)) [
        | inl e ↦
            or_left _ _ (has-among (source_leg m) _ (map_among source_leg m (filter is_local b.messages) (kept-among is_local m b.messages among e)))
        | inr e ↦
            let to = some-member (bus_count b) m.destinations (grind (arith, nat_tests)) (home m among).1 in
            let pair = has-pair m among to.0 to.1 to.2 to.3 in
            grind (arith, list_any-by (touches (source_leg m)) (pair_to m to.0) _ pair, same-itself (source_leg m))
      ]

  destination_met : (m : Message) → Among m b.messages → (k : ℕ) → 1 ≤ k → k ≤ bus_count b → member m.destinations k ≡ true →
      list_any (touches (leg_at k m.number)) (net_of b).pairs ≡ true
  destination_met m among k low high h =
      let x = leg_at k m.number in
      list_any-by (touches x) (pair_to m k) _ (has-pair m among k low high h) (or_right (same x (source_leg m)) _ (same-itself x))

  leg-met : (x : Leg) → has_any x (net_of b).buses ≡ true → (has x (net_of b).locals || list_any (touches x) (net_of b).pairs) ≡ true
  leg-met x h =
      let here = any_is b.messages x (bus_numbers (bus_count b)) h in
      let within = numbers-is x.bus 1 (bus_count b) here.0 in
      let listed = (and_parts (eqb x.bus x.bus) _ (sym (has-bus x b.messages x.bus) ∙ here.1)).1 in
      let found = list_any_is (meant x.bus x.message) b.messages listed in
      let m = found.0 in
      let its = and_parts (eqb m.number x.message) _ found.2 in
      let number = sym (eqb-true m.number x.message its.0) in
      let P : Leg → Type 0 = λ v. (has v (net_of b).locals || list_any (touches v) (net_of b).pairs) ≡ true in
      elim (or_cases (eqb x.bus m.source) _ its.1) [
        | inl e ↦ subst P (sym (leg-equal x m.source m.number (eqb-true _ _ e) number)) (source_met m found.1)
        | inr e ↦
            let met = destination_met m found.1 x.bus within.0 (omega arith) e in
            subst P (sym (leg-equal x x.bus m.number refl number)) (or_right (has (leg_at x.bus m.number) (net_of b).locals) _ met)
      ]

  locals-on : list_all (λ x. has_any x (net_of b).buses) (net_of b).locals ≡ true
  locals-on =
      list_all-map (λ x. has_any x (net_of b).buses) source_leg (filter is_local b.messages)
      ∙ list_all-by _ _ (λ m among. has-source m (kept-is is_local m b.messages among).0)

  pairs-on : list_all (λ pr. has_any pr.source (net_of b).buses && has_any pr.destination (net_of b).buses) (net_of b).pairs ≡ true
  pairs-on =
      list_all-by _ (net_of b).pairs (λ pr among.
      let came = joined_is pairs_of pr b.messages among in
      let m = came.0 in
      let to = map_is (pair_to m) pr (destinations_of m) came.2 in
      let k = to.0 in
      let kept = kept-is (member m.destinations) k (bus_numbers 8) to.1 in
      let within = numbers-is k 1 8 kept.0 in
      let high = destination_home m came.1 k kept.1 in
      subst (λ (v : Pair). (has_any v.source (net_of b).buses && has_any v.destination (net_of b).buses) ≡ true) to.2
      (and_from _ _ (has-source m came.1) (has-leg m came.1 k within.0 high (or_right (eqb k m.source) _ kept.1))))

pub board-lawful : BoardLawful
board-lawful b sound =
    record {
      shorter = λ x h k d part e.
          (rule_at-keeps b.rules sound.rules x.bus).shorter (legs_on b.messages x.bus) x.message
          (λ n. has (leg_at x.bus n) h) (λ n. has (leg_at x.bus n) k) d
          (legs_rise b.messages x.bus sound.messages.rise) (λ j _ _ t. part (leg_at x.bus j) t) e;
      apart = buses-apart b.messages 1 (bus_count b);
      each = leg-met b sound;
      locals_on = locals-on b sound;
      pairs_on = pairs-on b sound;
    }
