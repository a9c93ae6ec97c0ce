-- The legs of a bus: they rise, none stands twice, and which messages have one.
use Rattle.std.proofs.Common.{◌≡◌, ℕ, ◌≤◌, Bool, true, false, cond, ◌&&◌, ◌||◌, eqb, List, [], ◌∷◌, map, is_some, Some, None, Option, refl, ap, ◌∙◌, arith}
use Rattle.std.proofs.lemmas.Bool.Decides.{nat_tests}
use Rattle.bus.specs.Legs.{leg_of, legs_on, rising_from}
use Rattle.bus.specs.Numbered.{member}
use Rattle.bus.specs.declared.leg.Leg.{Leg as BusLeg}
use Rattle.bus.specs.declared.message.Message.{Message}
use Rattle.std.specs.List.{list_any}
use Rattle.search.specs.Net.{Leg, same, has}
use Rattle.boards.specs.Boards.{message_of, messages_from, rising_messages}
use Rattle.search.specs.Stored.{distinct}
use Rattle.boards.specs.Nets.{leg_at, net_leg, net_legs, leg_from}
use Rattle.boards.specs.Laws.{LegsRise, LegsListed, LegsOfMessages}

-- the leg of a message on a bus, by whether the bus is its source, and whether it is a destination
abbrev leg_by : Message → Bool → Bool → Option BusLeg
leg_by m at_source at_end =
    cond at_source (Some (record { message = m; source = true })) (cond at_end (Some (record { message = m; source = false })) None)

-- ---------------------------------------------------------------- they rise
rising-lower : (n k : ℕ) (legs : List BusLeg) → n ≤ k → rising_from k legs ≡ true → rising_from n legs ≡ true
rising-lower n k [] le h = refl
rising-lower n k (x ∷ xs) le h = grind (arith, nat_tests)

legs_rise-from : (n : ℕ) (ms : List Message) (bus : ℕ) → messages_from n ms ≡ true → rising_from n (legs_on ms bus) ≡ true
legs_rise-from n [] bus h = refl
legs_rise-from n (m ∷ ms) bus h =
    grind (arith, nat_tests, legs_rise-from m.number ms bus, rising-lower n m.number (legs_on ms bus))

pub legs_rise : LegsRise
legs_rise ms bus h = legs_rise-from 0 ms bus h

-- ---------------------------------------------------------------- which there are
has-legs : (x : Leg) (bus : ℕ) (legs : List BusLeg) → has x (map (net_leg bus) legs) ≡ (eqb x.bus bus && is_some (leg_of legs x.message))
unfolding same
has-legs x bus [] = grind arith
has-legs x bus (y ∷ ys) = grind (arith, nat_tests, has-legs x bus ys)

pub legs_listed : LegsListed
legs_listed ms bus n = grind (arith, nat_tests, has-legs (leg_at bus n) bus (legs_on ms bus))

-- the message has a leg on the bus
abbrev pub on : ℕ → Message → Bool
on bus m = eqb bus m.source || member m.destinations bus

-- it is the message of this number, and has a leg on the bus
abbrev pub meant : ℕ → ℕ → Message → Bool
meant bus n m = eqb m.number n && on bus m

leg_of-list_any : (ms : List Message) (bus n : ℕ) → is_some (leg_of (legs_on ms bus) n) ≡ list_any (meant bus n) ms
leg_of-list_any [] bus n = refl
leg_of-list_any (m ∷ ms) bus n = grind (arith, leg_of-list_any ms bus n)

pub has-bus : (x : Leg) (ms : List Message) (bus : ℕ) → has x (net_legs ms bus) ≡ (eqb x.bus bus && list_any (meant bus x.message) ms)
has-bus x ms bus = has-legs x bus (legs_on ms bus) ∙ ap (λ t. eqb x.bus bus && t) (leg_of-list_any ms bus x.message)

-- ---------------------------------------------------------------- none stands twice
-- a number below those of all the legs
leg_of-below : (k n : ℕ) (legs : List BusLeg) → n ≤ k → rising_from k legs ≡ true → is_some (leg_of legs n) ≡ false
leg_of-below k n [] le h = refl
leg_of-below k n (y ∷ ys) le h = grind (arith, nat_tests, leg_of-below y.message.number n ys)

legs_distinct : (bus k : ℕ) (legs : List BusLeg) → rising_from k legs ≡ true → distinct (map (net_leg bus) legs) ≡ true
legs_distinct bus k [] h = refl
legs_distinct bus k (y ∷ ys) h =
    let n = y.message.number in
    grind (arith, nat_tests, legs_distinct bus n ys, has-legs (net_leg bus y) bus ys, leg_of-below n n ys)

pub bus_distinct : (ms : List Message) (bus : ℕ) → rising_messages ms ≡ true → distinct (net_legs ms bus) ≡ true
bus_distinct ms bus h = legs_distinct bus 0 (legs_on ms bus) (legs_rise ms bus h)

-- ---------------------------------------------------------------- whose they are
legs_of_messages-from : (k : ℕ) (ms : List Message) (bus n : ℕ) → messages_from k ms ≡ true → leg_of (legs_on ms bus) n ≡ leg_from bus (message_of ms n)
legs_of_messages-from k [] bus n h = refl
legs_of_messages-from k (m ∷ ms) bus n h =
    grind (
      arith,
      nat_tests,
      legs_of_messages-from m.number ms bus n,
      leg_of-below m.number n (legs_on ms bus),
      legs_rise-from m.number ms bus,
    )

pub legs_of_messages : LegsOfMessages
legs_of_messages ms bus n h = legs_of_messages-from 0 ms bus n h
