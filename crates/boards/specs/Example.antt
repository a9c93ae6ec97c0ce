-- Boards of two buses, as a check of the definitions by computation.
-- Every frame takes 270000 ns. A leg waits for a frame that has begun and for one frame of each leg above it, and takes its own.
use Rattle.std.specs.Prelude.{◌≡◌, ℕ, ◌+◌, ◌*◌, Bool, false, cond, not, ◌&&◌, List, [], ◌∷◌, Some, None, Option, ◌==◌, nat_le, refl}
use Rattle.std.proofs.Common.{zero-le, lit≤}
use Rattle.bus.specs.Legs.{leg_of}
use Rattle.bus.specs.Numbered.{member}
use Rattle.bus.specs.Range.{In, numbers, buses, deadlines}
use Rattle.bus.specs.Rules.{Meaning}
use Rattle.bus.specs.declared.leg.Leg.{Leg as BusLeg}
use Rattle.bus.specs.declared.message.Message.{Message}
use Rattle.search.specs.Net.{Pair}
use Rattle.search.specs.Walk.{walk}
use Rattle.boards.specs.Boards.{Board, board_of, Sound}
use Rattle.boards.specs.Nets.{leg_at, net_of}

-- ---------------------------------------------------------------- the rule
-- how many other legs of the bus are in the set
abbrev pub others_in : List BusLeg → ℕ → (ℕ → Bool) → ℕ
others_in [] n h = 0
others_in (x ∷ xs) n h = cond (not (x.message.number == n) && h x.message.number) 1 0 + others_in xs n h

-- over where there is no leg, and past its deadline
abbrev pub within_deadline : Option BusLeg → ℕ → Option ℕ
within_deadline None d = None
within_deadline (Some leg) d = cond (nat_le d leg.message.deadline) (Some d) None

abbrev pub even_frames : Meaning
even_frames legs n h = within_deadline (leg_of legs n) (270000 * (2 + others_in legs n h))

-- ---------------------------------------------------------------- the boards
pub to_two : member 2 1 ≡ false
unfolding member
to_two = refl

pub to_none : member 0 2 ≡ false
unfolding member
to_none = refl

abbrev pub sent : (number source destinations deadline : ℕ) →
    In numbers number → In buses source → In (deadlines 10000000) deadline → member destinations source ≡ false → Message
sent number source destinations deadline a b c elsewhere =
    record {
      number = number;
      source = source;
      destinations = destinations;
      payload = record { bytes = 8; range = (lit≤ tt, lit≤ tt) };
      period = 10000000;
      deadline = deadline;
      jitter = 0;
      number_range = a;
      source_range = b;
      period_range = (lit≤ tt, lit≤ tt);
      deadline_range = c;
      jitter_range = (zero-le, zero-le);
      elsewhere = elsewhere;
    }

-- from bus 1 to bus 2
abbrev pub crossing : (number deadline : ℕ) → In numbers number → In (deadlines 10000000) deadline → Message
crossing number deadline a c = sent number 1 2 deadline a (lit≤ tt, lit≤ tt) c to_two

-- on bus 2 alone
abbrev pub staying : (number deadline : ℕ) → In numbers number → In (deadlines 10000000) deadline → Message
staying number deadline a c = sent number 2 0 deadline a (lit≤ tt, lit≤ tt) c to_none

abbrev pub two_buses : List Message → Board
two_buses ms = board_of (even_frames ∷ even_frames ∷ []) 100000 ms

-- two messages that cross, with the same deadline; 1450000 is the least that can be met
abbrev pub two_cross : (deadline : ℕ) → In (deadlines 10000000) deadline → Board
two_cross deadline c = two_buses (crossing 1 deadline (lit≤ tt, lit≤ tt) c ∷ crossing 2 deadline (lit≤ tt, lit≤ tt) c ∷ [])

abbrev pub at_limit : Board
at_limit = two_cross 1450000 (lit≤ tt, lit≤ tt)

abbrev pub below_limit : Board
below_limit = two_cross 1449999 (lit≤ tt, lit≤ tt)

-- two that cross, and one that stays on bus 2; the walk takes rankings back
abbrev pub one_stays : Board
one_stays =
    let first = crossing 1 1720000 (lit≤ tt, lit≤ tt) (lit≤ tt, lit≤ tt) in
    let second = staying 2 810000 (lit≤ tt, lit≤ tt) (lit≤ tt, lit≤ tt) in
    let third = crossing 3 1450000 (lit≤ tt, lit≤ tt) (lit≤ tt, lit≤ tt) in
    two_buses (first ∷ second ∷ third ∷ [])

-- the pair of a message that goes from bus 1 to bus 2
abbrev pub pair_of : ℕ → ℕ → Pair
pair_of number deadline = record { source = leg_at 1 number; destination = leg_at 2 number; deadline = deadline }

-- ---------------------------------------------------------------- their nets and walks
-- Orders list a bus from the lowest rank up.
pub record AtLimit : Type 0 where
  pub sound : Sound at_limit
  pub buses : (net_of at_limit).buses ≡ (leg_at 1 1 ∷ leg_at 1 2 ∷ []) ∷ (leg_at 2 1 ∷ leg_at 2 2 ∷ []) ∷ []
  pub locals : (net_of at_limit).locals ≡ []
  pub pairs : (net_of at_limit).pairs ≡ pair_of 1 1450000 ∷ pair_of 2 1450000 ∷ []
  pub walks : walk (net_of at_limit) ≡ record {
    tries = 5;
    outcome = Some ((leg_at 1 1 ∷ leg_at 1 2 ∷ []) ∷ (leg_at 2 2 ∷ leg_at 2 1 ∷ []) ∷ []);
  }

pub record BelowLimit : Type 0 where
  pub sound : Sound below_limit
  pub walks : walk (net_of below_limit) ≡ record { tries = 2; outcome = None }

pub record OneStays : Type 0 where
  pub sound : Sound one_stays
  pub buses : (net_of one_stays).buses ≡ (leg_at 1 1 ∷ leg_at 1 3 ∷ []) ∷ (leg_at 2 1 ∷ leg_at 2 2 ∷ leg_at 2 3 ∷ []) ∷ []
  pub locals : (net_of one_stays).locals ≡ leg_at 2 2 ∷ []
  pub pairs : (net_of one_stays).pairs ≡ pair_of 1 1720000 ∷ pair_of 3 1450000 ∷ []
  pub walks : walk (net_of one_stays) ≡ record {
    tries = 10;
    outcome = Some ((leg_at 1 3 ∷ leg_at 1 1 ∷ []) ∷ (leg_at 2 1 ∷ leg_at 2 2 ∷ leg_at 2 3 ∷ []) ∷ []);
  }

abbrev pub ExampleBoards : Type 0
ExampleBoards = AtLimit × BelowLimit × OneStays
