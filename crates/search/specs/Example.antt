-- A worked example: two buses, and two messages that cross, both from bus 1 to bus 2.
-- Every frame takes 270000 ns. A leg waits for a frame that has begun, 270000, and takes its own 270000; where the other leg of its bus
-- is above it, it waits for that one too, 270000 more.
use Rattle.std.specs.Prelude.{◌≡◌, ℕ, ◌-◌, cond, List, [], ◌∷◌, Some, None, Option}
use Rattle.search.specs.Net.{Leg, Pair, Net, has, has_any}
use Rattle.search.specs.Deadlines.{Meets}
use Rattle.search.specs.Walk.{put, candidates, walk}
use Rattle.search.specs.Bound.{bound}
use Rattle.search.specs.Laws.{Lawful}

-- ---------------------------------------------------------------- the net
-- the leg of a message on a bus
abbrev pub leg : ℕ → ℕ → Leg
leg b m = record { bus = b; message = m }

abbrev pub bus1 : List Leg
bus1 = leg 1 1 ∷ leg 1 2 ∷ []

abbrev pub bus2 : List Leg
bus2 = leg 2 1 ∷ leg 2 2 ∷ []

abbrev pub both_buses : List (List Leg)
both_buses = bus1 ∷ bus2 ∷ []

-- the leg of the other message on its bus
abbrev pub other : Leg → Leg
other x = leg x.bus (3 - x.message)

abbrev pub delay_below : Leg → List Leg → Option ℕ
delay_below x above = cond (has_any x both_buses) (Some (cond (has (other x) above) 810000 540000)) None

abbrev pub crossing : ℕ → ℕ → Pair
crossing deadline m = record { source = leg 1 m; destination = leg 2 m; deadline = deadline }

-- with the deadlines of message 1 and of message 2
abbrev pub example : ℕ → ℕ → Net
example due1 due2 =
    record {
      buses = both_buses;
      delay = delay_below;
      locals = [];
      pairs = crossing due1 1 ∷ crossing due2 2 ∷ [];
      gateway = 100000;
    }

-- The theorems speak of this net: it keeps what they assume, at any deadlines.
abbrev pub ExampleLawful : Type 0
ExampleLawful = (due1 due2 : ℕ) → Lawful (example due1 due2)

-- ---------------------------------------------------------------- its walks
-- On bus 1 message 2 has rank 1, the highest, and message 1 rank 2; on bus 2 message 1 has rank 1 and message 2 rank 2.
-- (Orders list from the lowest rank up.)
abbrev pub crossed : List (List Leg)
crossed = (leg 1 1 ∷ leg 1 2 ∷ []) ∷ (leg 2 2 ∷ leg 2 1 ∷ []) ∷ []

-- The tries: messages 1 and 2 on bus 1; on bus 2 message 1, which does not fit below message 2, and then messages 2 and 1.
abbrev pub FoundAfterFive : Type 0
FoundAfterFive = walk (example 1500000 1500000) ≡ record { tries = 5; outcome = Some crossed }

abbrev pub FoundAtTheLimit : Type 0
FoundAtTheLimit = walk (example 1450000 1450000) ≡ record { tries = 5; outcome = Some crossed }

-- One nanosecond less, and neither message fits at the lowest rank of bus 1.
abbrev pub NoneBelowTheLimit : Type 0
NoneBelowTheLimit = walk (example 1449999 1449999) ≡ record { tries = 2; outcome = None }

-- Message 2 fits nowhere, which counts only once it is tested: message 1 at the lowest rank of bus 1 fits, message 2 above it does not,
-- and, as message 1 was not ready, message 2 is tested at the lowest rank too.
abbrev pub NoneAfterThree : Type 0
NoneAfterThree = walk (example 1500000 1000000) ≡ record { tries = 3; outcome = None }

-- Message 1 takes 810000 + 100000 + 540000 by these orders, and message 2 takes 540000 + 100000 + 810000.
abbrev pub MeetsToTheNanosecond : Type 0
MeetsToTheNanosecond = Meets (example 1450000 1450000) crossed × (Meets (example 1449999 1449999) crossed → ⊥)

-- Were message 2 alone ranked on bus 1, it would be ready on bus 2, and tested there before message 1.
abbrev pub ReadyLegFirst : Type 0
ReadyLegFirst = candidates (example 1500000 1500000) (put (λ _. None) (leg 1 2) (Some 540000)) bus2 ≡ leg 2 2 ∷ leg 2 1 ∷ []

-- 4 for the last bus alone, and 12 for both
abbrev pub BoundOfTwelve : Type 0
BoundOfTwelve = (bound (bus2 ∷ []) ≡ 4) × (bound both_buses ≡ 12)
