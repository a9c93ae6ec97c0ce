-- The open legs of a bus, one message after another.
use Rattle.std.proofs.Common.{◌≡◌, ℕ, ◌+◌, ◌<◌, Bool, true, false, cond, ◌&&◌, eqb, List, ◌∷◌, ◌++◌, map, length, get_or, drop, is_some, Some, None, Option, sym, refl, ap, ◌∙◌}
use Rattle.std.specs.List.{filter}
use Rattle.std.specs.Option.{option_to_list}
use Rattle.std.proofs.lemmas.List.{drop_more}
use Rattle.bus.specs.Legs.{legs_on}
use Rattle.bus.specs.Numbered.{member}
use Rattle.bus.specs.declared.leg.Leg.{Leg as BusLeg}
use Rattle.bus.specs.declared.message.Message.{Message}
use Rattle.search.specs.Net.{Leg}
use Rattle.search.specs.Stored.{unranked}
use Rattle.boards.specs.Nets.{leg_at, net_leg}
use Rattle.planner.specs.Storage.{ranked_of, open_legs, is_open}
use Rattle.planner.specs.declared.ranked.Ranked.{Ranked}

-- the leg of a message on a bus, by whether the bus is its source, and whether it is a destination
abbrev pub leg_by : Message → Bool → Bool → Option BusLeg
leg_by m at_source at_end =
    cond at_source (Some (record { message = m; source = true })) (cond at_end (Some (record { message = m; source = false })) None)

leg_by-kept : (bus : ℕ) (f : Leg → Bool) (m : Message) (legs : List BusLeg) (at_source at_end : Bool) →
    filter f (map (net_leg bus) (option_to_list (leg_by m at_source at_end) ++ legs))
    ≡ cond (is_some (leg_by m at_source at_end) && f (leg_at bus m.number)) (leg_at bus m.number ∷ filter f (map (net_leg bus) legs))
    (filter f (map (net_leg bus) legs))
leg_by-kept bus f m legs true at_end = refl
leg_by-kept bus f m legs false true = refl
leg_by-kept bus f m legs false false = refl

module _ (rs : List Ranked) (bus : ℕ) where
  pub open_legs-first : (m : Message) (ms : List Message) →
      open_legs (m ∷ ms) rs bus ≡ cond (is_open rs bus m) (leg_at bus m.number ∷ open_legs ms rs bus) (open_legs ms rs bus)
  open_legs-first m ms = leg_by-kept bus (unranked (ranked_of rs)) m (legs_on ms bus) (eqb bus m.source) (member m.destinations bus)

  pub open_more : (ms : List Message) (i : ℕ) (m : Message) → i < length ms → m ≡ get_or ms i m →
      open_legs (drop i ms) rs bus
      ≡ cond (is_open rs bus m) (leg_at bus m.number ∷ open_legs (drop (i + 1) ms) rs bus) (open_legs (drop (i + 1) ms) rs bus)
  open_more ms i m within read =
      ap (λ l. open_legs l rs bus) (drop_more ms i m within ∙ ap (λ x. x ∷ drop (i + 1) ms) (sym read)) ∙ open_legs-first m (drop (i + 1) ms)
