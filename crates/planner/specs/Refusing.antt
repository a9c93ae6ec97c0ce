-- Which calls are refused. The tests stand by the refusals' rising numbers, so the first that holds gives the smallest.
use Rattle.std.specs.Prelude.{ℕ, ◌^◌, Bool, true, false, cond, not, ◌&&◌, List, [], ◌∷◌, is_some, Some, None, Option, nat_le, nat_lt}
use Rattle.bus.specs.Entries.{in_range}
use Rattle.bus.specs.Numbered.{member}
use Rattle.bus.specs.Range.{Span, inside, numbers, buses}
use Rattle.bus.specs.declared.entry.Entry.{Entry}
use Rattle.bus.specs.declared.message.Message.{Message}
use Rattle.bus.specs.declared.refusal.Refusal.{Refusal}
use Rattle.bus.specs.declared.refusal.Refusal.TheVariants.{Count, Range, NoBus, SourceIsDestination, Taken, NoLeg, NoMessages, NotFound, FewRows, WrongRows}
use Rattle.boards.specs.Boards.{message_of}
use Rattle.boards.specs.Nets.{leg_from}

-- this refusal where the test holds, else what follows
abbrev pub refused_if : Bool → Refusal → Option Refusal → Option Refusal
refused_if test refusal rest = cond test (Some refusal) rest

-- the buses that a board may have, and the gateway times
abbrev pub bus_counts : Span
bus_counts = record { low = 1; high = 8 }

abbrev pub gateways : Span
gateways = record { low = 0; high = 1000000000 }

-- what is refused of a board to make, with n buses
abbrev pub make_fault : ℕ → ℕ → Option Refusal
make_fault n gateway = refused_if (not (inside bus_counts n)) Count (refused_if (not (inside gateways gateway)) Range None)

-- the source and every destination that is given are among the first n buses
abbrev pub given_on_board : ℕ → Entry → Bool
given_on_board n e = nat_le e.source n && nat_lt e.destinations (2 ^ n)

-- what is refused of a message to enter, on a board of n buses with these messages
abbrev pub enter_fault : ℕ → List Message → Entry → Option Refusal
enter_fault n ms e =
    refused_if (not (in_range e)) Range
    (refused_if (not (given_on_board n e)) NoBus
    (refused_if (member e.destinations e.source) SourceIsDestination (refused_if (is_some (message_of ms e.number)) Taken None)))

-- what is refused of a number whose message is to be withdrawn
abbrev pub withdraw_fault : List Message → ℕ → Option Refusal
withdraw_fault ms n = refused_if (not (inside numbers n)) Range (refused_if (not (is_some (message_of ms n))) NoLeg None)

abbrev pub is_none : List Message → Bool
is_none [] = true
is_none (m ∷ ms) = false

-- the tries that a call may be given
abbrev pub try_counts : Span
try_counts = record { low = 1; high = 1000000 }

abbrev pub try_fault : List Message → ℕ → Option Refusal
try_fault ms n = refused_if (not (inside try_counts n)) Range (refused_if (is_none ms) NoMessages None)

-- what is refused of a look at a leg; found: whether the walk has ended with found
abbrev pub look_fault : ℕ → List Message → Bool → ℕ → ℕ → Option Refusal
look_fault count ms found bus n =
    refused_if (not (inside buses bus && inside numbers n)) Range
    (refused_if (not (nat_le bus count)) NoBus
    (refused_if (not (is_some (leg_from bus (message_of ms n)))) NoLeg (refused_if (not found) NotFound None)))

-- so many rows are lent, and so many are needed
abbrev pub list_fault : Bool → ℕ → ℕ → Option Refusal
list_fault found lent needed = refused_if (not found) NotFound (refused_if (nat_lt lent needed) FewRows None)

-- named: whether the rows name every leg exactly once, by bus
abbrev pub check_fault : List Message → Bool → ℕ → ℕ → Option Refusal
check_fault ms named lent needed =
    refused_if (is_none ms) NoMessages (refused_if (nat_lt lent needed) FewRows (refused_if (not named) WrongRows None))
