-- The legs of a bus, message by message: a test of each of them, and the message that one belongs to.
use Rattle.std.proofs.Common.{◌≡◌, ℕ, Bool, true, false, not, ◌&&◌, ◌||◌, eqb, List, [], ◌∷◌, ◌++◌, map, is_some, sym, refl, ap, ◌∙◌, arith}
use Rattle.std.specs.List.{list_all, list_any}
use Rattle.std.specs.Option.{option_to_list}
use Rattle.std.proofs.lemmas.Bool.{and_from, le-leb}
use Rattle.std.proofs.lemmas.Bool.Decides.{nat_tests}
use Rattle.bus.specs.Legs.{leg_on, legs_on}
use Rattle.bus.specs.Numbered.{member}
use Rattle.bus.specs.Range.{inside, numbers}
use Rattle.bus.specs.declared.message.Message.{Message}
use Rattle.search.specs.Net.{Leg, has}
use Rattle.boards.specs.Boards.{message_of, rising_messages}
use Rattle.boards.specs.Nets.{leg_at, leg_from, net_leg, net_legs}
use Rattle.boards.proofs.BusLegs.{legs_listed, legs_of_messages, has-bus, meant}
use Rattle.planner.proofs.OneMessage.{leg_by}

-- a message that has a leg on the bus passes the test of that leg
abbrev pub passes_on : (Leg → Bool) → ℕ → Message → Bool
passes_on f bus m = not (is_some (leg_on m bus)) || f (leg_at bus m.number)

pub list_all-legs : (f : Leg → Bool) (ms : List Message) (bus : ℕ) → list_all f (net_legs ms bus) ≡ list_all (passes_on f bus) ms
list_all-legs f [] bus = refl
list_all-legs f (m ∷ ms) bus = go (eqb bus m.source) (member m.destinations bus) ∙ ap (λ t. passes_on f bus m && t) (list_all-legs f ms bus)
  where
    go : (a e : Bool) → list_all f (map (net_leg bus) (option_to_list (leg_by m a e) ++ legs_on ms bus)) ≡ ((not (is_some (leg_by m a e)) || f (leg_at bus m.number)) && list_all f (net_legs ms bus))
    go true e = refl
    go false true = refl
    go false false = refl

-- the leg of a number is that of the message with the number
pub has-leg_from : (ms : List Message) (bus n : ℕ) → rising_messages ms ≡ true → has (leg_at bus n) (net_legs ms bus) ≡ is_some (leg_from bus (message_of ms n))
has-leg_from ms bus n h = sym (legs_listed ms bus n) ∙ ap is_some (legs_of_messages ms bus n h)

-- the numbers of messages are in their range
pub inside-number : (m : Message) → inside numbers m.number ≡ true
inside-number m = and_from _ _ (le-leb 1 m.number m.number_range.0) (le-leb m.number 64 m.number_range.1)

meant-inside : (ms : List Message) (bus n : ℕ) → list_any (meant bus n) ms ≡ true → inside numbers n ≡ true
meant-inside [] bus n h = grind arith
meant-inside (m ∷ ms) bus n h = grind (arith, nat_tests, meant-inside ms bus n, inside-number m)

pub has-leg_inside : (ms : List Message) (bus n : ℕ) → has (leg_at bus n) (net_legs ms bus) ≡ true → inside numbers n ≡ true
has-leg_inside ms bus n h = meant-inside ms bus n (grind (arith, nat_tests, has-bus (leg_at bus n) ms bus))
