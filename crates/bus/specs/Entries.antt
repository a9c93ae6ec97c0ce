-- Which values make a message, and what is refused else.
use Rattle.std.specs.Prelude.{◌≡◌, Bool, cond, ◌&&◌, Some, None, Option, Result, MatchResult}
use Rattle.bus.specs.Numbered.{member}
use Rattle.bus.specs.Range.{inside, numbers, buses, payloads, periods, deadlines, jitters}
use Rattle.bus.specs.declared.entry.Entry.{Entry}
use Rattle.bus.specs.declared.message.Message.{Message}
use Rattle.bus.specs.declared.refusal.Refusal.{Refusal}
use Rattle.bus.specs.declared.refusal.Refusal.TheVariants.{Range, SourceIsDestination}

-- every number is in its range
abbrev pub in_range : Entry → Bool
in_range e =
    inside numbers e.number && (inside buses e.source && (inside payloads e.payload
    && (inside periods e.period && (inside (deadlines e.period) e.deadline && inside (jitters e.deadline) e.jitter))))

-- what is refused of the values alone, whatever the board
abbrev pub entry_fault : Entry → Option Refusal
entry_fault e = cond (in_range e) (cond (member e.destinations e.source) (Some SourceIsDestination) None) (Some Range)

-- the message has the values that were given
pub record Holds (e : Entry) (m : Message) : Type 0 where
  pub number : m.number ≡ e.number
  pub source : m.source ≡ e.source
  pub destinations : m.destinations ≡ e.destinations
  pub payload : m.payload.bytes ≡ e.payload
  pub period : m.period ≡ e.period
  pub deadline : m.deadline ≡ e.deadline
  pub jitter : m.jitter ≡ e.jitter

-- the message with the values that were given, or what is refused of them
abbrev pub Makes : Entry → Result Message Refusal → Type 0
Makes e r = MatchResult r (λ m. (entry_fault e ≡ None) × Holds e m) (λ f. entry_fault e ≡ Some f)
