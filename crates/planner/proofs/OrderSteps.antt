-- The turns of the test of an order: a row names a leg that is not yet seen, and with it seen the other rows order the rest.
use Rattle.std.proofs.Common.{◌≡◌, ℕ, Bool, true, false, not, ◌&&◌, ◌||◌, eqb, List, ◌∷◌, sym, ap, ◌∙◌}
use Rattle.std.proofs.lemmas.Bool.{and_parts, cond-true, cond-false, eq-eqb, ne_eqb}
use Rattle.bus.specs.Legs.{legs_on}
use Rattle.bus.specs.Numbered.{member}
use Rattle.bus.specs.Range.{inside, numbers}
use Rattle.bus.specs.declared.message.Message.{Message}
use Rattle.search.specs.Net.{Leg, has, less}
use Rattle.boards.specs.Nets.{leg_at, net_legs}
use Rattle.planner.specs.Checks.{is_order, order_in}
use Rattle.planner.specs.Spots.{down_in}
use Rattle.planner.specs.declared.rows.Spot.{Spot}
use Rattle.planner.proofs.MessageLegs.{has-leg_inside}
use Rattle.planner.proofs.OrderTests.{is_order-down}
use Rattle.planner.proofs.Seen.{unseen, has-unseen, unseen-less, unseen-all}

pub down_in-here : (r : Spot) (rest : List Spot) (bus : ℕ) → r.bus ≡ bus → down_in (r ∷ rest) bus ≡ leg_at bus r.message ∷ down_in rest bus
down_in-here r rest bus e = cond-true _ _ _ (eq-eqb r.bus bus e)

pub down_in-elsewhere : (r : Spot) (rest : List Spot) (bus : ℕ) → (r.bus ≡ bus → ⊥) → down_in (r ∷ rest) bus ≡ down_in rest bus
down_in-elsewhere r rest bus e = cond-false _ _ _ (ne_eqb r.bus bus e)

module _ (ms : List Message) (bus bits : ℕ) (r : Spot) (rest : List Spot) (here : r.bus ≡ bus) where
  abbrev is_new : Bool
  is_new = not (member bits r.message) && has (leg_at bus r.message) (net_legs ms bus)

  is_order-turn : is_order (down_in (r ∷ rest) bus) (unseen bits (net_legs ms bus))
      ≡ (is_new && is_order (down_in rest bus) (less (leg_at bus r.message) (unseen bits (net_legs ms bus))))
  is_order-turn =
      ap (λ o. is_order o (unseen bits (net_legs ms bus))) (down_in-here r rest bus here)
      ∙ ap (λ t. t && is_order (down_in rest bus) (less (leg_at bus r.message) (unseen bits (net_legs ms bus)))) (has-unseen bits bus r.message (net_legs ms bus))

  pub is_order-fails : false ≡ is_new → is_order (down_in (r ∷ rest) bus) (unseen bits (net_legs ms bus)) ≡ false
  is_order-fails h = is_order-turn ∙ ap (λ t. t && is_order (down_in rest bus) (less (leg_at bus r.message) (unseen bits (net_legs ms bus)))) (sym h)

  pub is_order-goes_on : (more : ℕ) → true ≡ is_new → ((k : ℕ) → member more k ≡ (inside numbers r.message && eqb k r.message || member bits k)) →
      is_order (down_in (r ∷ rest) bus) (unseen bits (net_legs ms bus)) ≡ is_order (down_in rest bus) (unseen more (net_legs ms bus))
  is_order-goes_on more h one =
      let within = has-leg_inside ms bus r.message (and_parts (not (member bits r.message)) _ (sym h)).1 in
      is_order-turn
      ∙ ap (λ t. t && is_order (down_in rest bus) (less (leg_at bus r.message) (unseen bits (net_legs ms bus)))) (sym h)
      ∙ ap (is_order (down_in rest bus)) (unseen-less bits more bus r.message one within (legs_on ms bus))

pub is_order-begins : (rows : List Spot) (bus bits : ℕ) (l : List Leg) → ((k : ℕ) → member bits k ≡ false) →
    is_order (down_in rows bus) (unseen bits l) ≡ is_order (order_in rows bus) l
is_order-begins rows bus bits l none = ap (is_order (down_in rows bus)) (unseen-all bits none l) ∙ is_order-down rows bus l
