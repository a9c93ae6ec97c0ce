-- A refusal of the values alone beside that of the buses: the smaller one is given.
use Rattle.std.proofs.Common.{◌≡◌, ℕ, ◌<◌, ◌≤◌, Bool, true, false, cond, not, ◌⊎◌, List, is_some, Some, None, Option, sym, refl, ap, inl, inr, arith}
use Rattle.std.proofs.lemmas.Bool.{true≢false}
use Rattle.bus.specs.Entries.{in_range, entry_fault}
use Rattle.bus.specs.Numbered.{member}
use Rattle.bus.specs.Refusals.{number_of}
use Rattle.bus.specs.declared.entry.Entry.{Entry}
use Rattle.bus.specs.declared.message.Message.{Message}
use Rattle.bus.specs.declared.refusal.Refusal.{Refusal}
use Rattle.bus.specs.declared.refusal.Refusal.TheVariants.{Range, NoBus, SourceIsDestination, Taken}
use Rattle.boards.specs.Boards.{message_of}
use Rattle.planner.specs.Refusing.{refused_if, given_on_board, enter_fault}

-- by what the tests say: the values are in range, the buses are on the board, the source is a destination
abbrev alone : Bool → Bool → Option Refusal
alone ranged met = cond ranged (cond met (Some SourceIsDestination) None) (Some Range)

abbrev all : Bool → Bool → Bool → Option Refusal → Option Refusal
all ranged here met rest = refused_if (not ranged) Range (refused_if (not here) NoBus (refused_if met SourceIsDestination rest))

module _ (refusal : Refusal) (rest : Option Refusal) where
  bus_by : (ranged here met : Bool) → alone ranged met ≡ Some refusal → here ≡ false → 4 < number_of refusal → all ranged here met rest ≡ Some NoBus
  bus_by true false met e away larger = refl
  bus_by true true met e away larger = absurd (true≢false away)
  bus_by false here met e away larger =
      let r : Range ≡ refusal = cc in
      absurd (omega (arith, ap number_of r))

  other-by : (ranged here met : Bool) → alone ranged met ≡ Some refusal → (here ≡ true) ⊎ (number_of refusal ≤ 4) → all ranged here met rest ≡ Some refusal
  other-by false here met e either = e
  other-by true here false e either = let z : ◌≡◌ {A = ℕ} 0 1 = cc in absurd (omega arith)
  other-by true true true e either = e
  other-by true false true e (inl away) = absurd (true≢false (sym away))
  other-by true false true e (inr smaller) =
      let r : SourceIsDestination ≡ refusal = cc in
      absurd (omega (arith, ap number_of r))

module _ (n : ℕ) (ms : List Message) (e : Entry) (refusal : Refusal) (fault : entry_fault e ≡ Some refusal) where
  taken : Option Refusal
  taken = refused_if (is_some (message_of ms e.number)) Taken None

  pub no_bus : given_on_board n e ≡ false → 4 < number_of refusal → enter_fault n ms e ≡ Some NoBus
  unfolding taken
  no_bus away larger = bus_by refusal taken (in_range e) (given_on_board n e) (member e.destinations e.source) fault away larger

  pub before-buses : (given_on_board n e ≡ true) ⊎ (number_of refusal ≤ 4) → enter_fault n ms e ≡ Some refusal
  unfolding taken
  before-buses either = other-by refusal taken (in_range e) (given_on_board n e) (member e.destinations e.source) fault either
