-- The open legs of a bus by their messages' numbers: those behind a leg are those with larger numbers.
use Rattle.std.proofs.Common.{◌≡◌, ℕ, ◌<◌, ◌≤◌, Bool, true, false, cond, ltb, List, [], ◌∷◌, refl, arith}
use Rattle.std.proofs.lemmas.Bool.{and_parts, ltb-true}
use Rattle.std.proofs.lemmas.Bool.Decides.{nat_tests}
use Rattle.bus.specs.declared.message.Message.{Message}
use Rattle.search.specs.Net.{Leg, has}
use Rattle.search.specs.Stored.{behind}
use Rattle.boards.specs.Boards.{messages_from, rising_messages}
use Rattle.boards.specs.Nets.{leg_at}
use Rattle.planner.specs.Storage.{open_legs, is_open, above}
use Rattle.planner.specs.declared.ranked.Ranked.{Ranked}
use Rattle.planner.proofs.OneMessage.{open_legs-first}
use Rattle.planner.proofs.Same.{same-on}

-- ---------------------------------------------------------------- one more leg, where there is one
more_above : (bus n j : ℕ) (t : Bool) (l : List Leg) → n < j → above n l ≡ l →
    above n (cond t (leg_at bus j ∷ l) l) ≡ cond t (leg_at bus j ∷ l) l
more_above bus n j true l lt h = grind (arith, nat_tests)
more_above bus n j false l lt h = h

has_more : (bus n j : ℕ) (t : Bool) (l : List Leg) → has (leg_at bus n) (cond t (leg_at bus j ∷ l) l) ≡ true →
    (has (leg_at bus n) l ≡ true → j < n) → j ≤ n
has_more bus n j true l h later = grind (arith, nat_tests, same-on bus n j)
has_more bus n j false l h later = omega (arith, later h)

more_behind : (bus n j : ℕ) (t : Bool) (l : List Leg) → has (leg_at bus n) (cond t (leg_at bus j ∷ l) l) ≡ true → j ≤ n →
    (n ≡ j → above n l ≡ l) → (has (leg_at bus n) l ≡ true → behind (leg_at bus n) l ≡ above n l) →
    behind (leg_at bus n) (cond t (leg_at bus j ∷ l) l) ≡ above n (cond t (leg_at bus j ∷ l) l)
more_behind bus n j true l h le here there = grind (arith, nat_tests, same-on bus n j)
more_behind bus n j false l h le here there = there h

-- ---------------------------------------------------------------- all open legs
module _ (rs : List Ranked) (bus n : ℕ) where
  -- all of them, where no message has a number up to n
  pub above-all : (k : ℕ) (ms : List Message) → n ≤ k → messages_from k ms ≡ true → above n (open_legs ms rs bus) ≡ open_legs ms rs bus
  above-all k [] le h = refl
  above-all k (m ∷ ms) le h =
      let both = and_parts (ltb k m.number) (messages_from m.number ms) h in
      let lt = ltb-true k m.number both.0 in
      let rest = above-all m.number ms (omega arith) both.1 in
      rw (open_legs-first rs bus m ms) (more_above bus n m.number (is_open rs bus m) (open_legs ms rs bus) (omega arith) rest)

  -- the leg of n is none of those of the numbers up to k
  has_above : (k : ℕ) (ms : List Message) → messages_from k ms ≡ true → has (leg_at bus n) (open_legs ms rs bus) ≡ true → k < n
  has_above k [] h on = grind arith
  has_above k (m ∷ ms) h on =
      let both = and_parts (ltb k m.number) (messages_from m.number ms) h in
      let lt = ltb-true k m.number both.0 in
      let first = rw (open_legs-first rs bus m ms) at on in
      omega (arith, has_more bus n m.number (is_open rs bus m) (open_legs ms rs bus) first (has_above m.number ms both.1))

  behind-from : (k : ℕ) (ms : List Message) → messages_from k ms ≡ true → has (leg_at bus n) (open_legs ms rs bus) ≡ true →
      behind (leg_at bus n) (open_legs ms rs bus) ≡ above n (open_legs ms rs bus)
  behind-from k [] h on = refl
  behind-from k (m ∷ ms) h on =
      let both = and_parts (ltb k m.number) (messages_from m.number ms) h in
      let first = rw (open_legs-first rs bus m ms) at on in
      let le = has_more bus n m.number (is_open rs bus m) (open_legs ms rs bus) first (has_above m.number ms both.1) in
      rw (open_legs-first rs bus m ms)
      (more_behind bus n m.number (is_open rs bus m) (open_legs ms rs bus) first le
      (λ e. above-all m.number ms (omega arith) both.1) (behind-from m.number ms both.1))

  pub behind-above : (ms : List Message) → rising_messages ms ≡ true → has (leg_at bus n) (open_legs ms rs bus) ≡ true →
      behind (leg_at bus n) (open_legs ms rs bus) ≡ above n (open_legs ms rs bus)
  behind-above ms h on = behind-from 0 ms h on
