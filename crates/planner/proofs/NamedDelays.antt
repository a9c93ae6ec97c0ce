-- The delays of legs in orders that rows name.
use Rattle.std.proofs.Common.{◌≡◌, ℕ, true, false, cond, ◌&&◌, ◌||◌, List, [], ◌∷◌, map, None, sym, refl, ap, ◌∙◌, inl, inr, arith}
use Rattle.std.proofs.lemmas.Bool.{and_parts, cond-true, cond-false, cases_Bool, both_ways}
use Rattle.bus.specs.Legs.{legs_on}
use Rattle.bus.specs.Numbered.{member}
use Rattle.bus.specs.Range.{inside, numbers}
use Rattle.search.specs.Deadlines.{delay_in, delays}
use Rattle.search.specs.Net.{Leg, same, Net, has}
use Rattle.search.specs.Stored.{behind}
use Rattle.search.proofs.Legs.{same-tells, same-turned}
use Rattle.search.proofs.Lists.{Among, list_all-at}
use Rattle.boards.specs.Boards.{Board, rule_at}
use Rattle.boards.specs.Nets.{leg_at, net_legs, bus_numbers, net_of}
use Rattle.boards.proofs.Elements.{numbers-among}
use Rattle.planner.specs.Checks.{order_in, orders_in, is_order, by_bus, named}
use Rattle.planner.specs.Spots.{down_in, ahead}
use Rattle.planner.specs.declared.rows.Spot.{Spot}
use Rattle.planner.proofs.MessageLegs.{has-leg_inside}
use Rattle.planner.proofs.OrderTests.{has-reverse, order_in-down, is_order-distinct, is_order-part}
use Rattle.planner.proofs.RowsAhead.{has-ahead, ahead-behind, down_in-bus, down_in-within}

-- ---------------------------------------------------------------- in one order, and in several
delay_in-behind : (net : Net) (o : List Leg) (x : Leg) → has x o ≡ true → delay_in net o x ≡ net.delay x (behind x o)
delay_in-behind net [] x h = grind arith
delay_in-behind net (y ∷ o) x h =
    elim (same-tells x y) [
      | inl e ↦
          cond-true (same y x) _ _ (same-turned y x ∙ e.0)
          ∙ ap (λ v. net.delay v o) (sym e.1)
          ∙ sym (ap (net.delay x) (cond-true (same x y) o (behind x o) e.0))
      | inr e ↦
          cond-false (same y x) _ _ (same-turned y x ∙ e)
          ∙ delay_in-behind net o x (sym (ap (λ t. t || has x o) e) ∙ h)
          ∙ sym (ap (net.delay x) (cond-false (same x y) o (behind x o) e))
    ]

module _ (net : Net) (f : ℕ → List Leg) (x : Leg) where
  delays-none : ((k : ℕ) → has x (f k) ≡ false) → (ks : List ℕ) → delays net (map f ks) x ≡ None
  delays-none h [] = refl
  delays-none h (k ∷ ks) = cond-false (has x (f k)) _ _ (h k) ∙ delays-none h ks

  delays-one : (bus : ℕ) → has x (f bus) ≡ true → ((k : ℕ) → has x (f k) ≡ true → k ≡ bus) → (ks : List ℕ) → Among bus ks →
      delays net (map f ks) x ≡ delay_in net (f bus) x
  delays-one bus h only [] m = absurd m
  delays-one bus h only (k ∷ ks) (inl e) = ap (λ v. cond (has x (f v)) (delay_in net (f v) x) (delays net (map f ks) x)) e ∙ cond-true (has x (f bus)) _ _ h
  delays-one bus h only (k ∷ ks) (inr m) =
      elim (cases_Bool (has x (f k))) [
        | inl t ↦ cond-true (has x (f k)) _ _ t ∙ ap (λ v. delay_in net (f v) x) (only k t)
        | inr t ↦ cond-false (has x (f k)) _ _ t ∙ delays-one bus h only ks m
      ]

-- ---------------------------------------------------------------- as the rows name them
has-order_in : (rows : List Spot) (k : ℕ) (x : Leg) → has x (order_in rows k) ≡ has x (down_in rows k)
has-order_in rows k x = ap (has x) (order_in-down rows k) ∙ has-reverse x (down_in rows k)

module _ (b : Board) (rows : List Spot) (bus n : ℕ) where
  -- no row names the leg
  pub unnamed_delay : (count : ℕ) → has (leg_at bus n) (down_in rows bus) ≡ false → delays (net_of b) (orders_in count rows) (leg_at bus n) ≡ None
  unnamed_delay count h =
      delays-none (net_of b) (order_in rows) (leg_at bus n)
      (λ k. elim (cases_Bool (has (leg_at bus n) (order_in rows k))) [
        | inl t ↦
            let on : has (leg_at bus n) (down_in rows k) ≡ true = sym (has-order_in rows k (leg_at bus n)) ∙ t in
            absurd (both_ways (has (leg_at bus n) (down_in rows bus)) h (ap (λ v. has (leg_at bus n) (down_in rows v)) (down_in-bus rows k bus n on) ∙ on))
        | inr t ↦ t
      ])
      (bus_numbers count)

  -- a row names it: the legs above it are those that are named ahead of it
  pub named-delay : (count bits : ℕ) → named count b.messages rows ≡ true → has (leg_at bus n) (down_in rows bus) ≡ true →
      ((k : ℕ) → member bits k ≡ (inside numbers k && has (leg_at bus k) (ahead (leg_at bus n) (down_in rows bus)))) →
      rule_at b.rules bus (legs_on b.messages bus) n (member bits) ≡ delays (net_of b) (orders_in count rows) (leg_at bus n)
  named-delay count bits all h above =
      let d = down_in rows bus in
      let both = and_parts (by_bus 1 count rows) _ all in
      let within = down_in-within 1 count rows bus n both.0 h in
      let among = numbers-among bus 1 count within.0 (omega (arith, within)) in
      let order : is_order (order_in rows bus) (net_legs b.messages bus) ≡ true =
      list_all-at (λ k. is_order (order_in rows k) (net_legs b.messages k)) bus (bus_numbers count) both.1 among
      in
      let on : has (leg_at bus n) (order_in rows bus) ≡ true = has-order_in rows bus (leg_at bus n) ∙ h in
      let inside-ahead : (k : ℕ) → has (leg_at bus k) (ahead (leg_at bus n) d) ≡ true → inside numbers k ≡ true =
      λ k t. has-leg_inside b.messages bus k
      (is_order-part (leg_at bus k) (order_in rows bus) (net_legs b.messages bus) order (has-order_in rows bus (leg_at bus k) ∙ has-ahead (leg_at bus n) (leg_at bus k) d t))
      in
      let same_set : (k : ℕ) → member bits k ≡ has (leg_at bus k) (behind (leg_at bus n) (order_in rows bus)) =
      λ k.
      above k
      ∙ elim (cases_Bool (has (leg_at bus k) (ahead (leg_at bus n) d))) as (λ _. (inside numbers k && has (leg_at bus k) (ahead (leg_at bus n) d)) ≡ has (leg_at bus k) (ahead (leg_at bus n) d)) [
        | inl t ↦ ap (λ u. u && has (leg_at bus k) (ahead (leg_at bus n) d)) (inside-ahead k t)
        | inr t ↦ grind (arith, t)
      ]
      ∙ sym (ap (λ o. has (leg_at bus k) (behind (leg_at bus n) o)) (order_in-down rows bus)
      ∙ ahead-behind (leg_at bus n) (leg_at bus k) d (is_order-distinct rows bus (net_legs b.messages bus) order) h)
      in
      ap (rule_at b.rules bus (legs_on b.messages bus) n) (λ i k. same_set k i)
      ∙ sym (delay_in-behind (net_of b) (order_in rows bus) (leg_at bus n) on)
      ∙ sym
      (delays-one (net_of b) (order_in rows) (leg_at bus n) bus on (λ k t. sym (down_in-bus rows k bus n (sym (has-order_in rows k (leg_at bus n)) ∙ t)))
      (bus_numbers count) among)
