-- A board: the rules of its buses, the gateway's time and the messages; and what is asked of one.
use Rattle.std.specs.Prelude.{◌≡◌, ℕ, zero, suc, ◌^◌, ◌≤◌, Bool, true, cond, ◌&&◌, List, [], ◌∷◌, length, Some, None, Option, ◌==◌, nat_le, nat_lt}
use Rattle.std.specs.List.{list_all, AllByRecursion}
use Rattle.bus.specs.Rules.{Meaning, Bounded, Absent, Shorter}
use Rattle.bus.specs.declared.message.Message.{Message}

pub record Board : Type 0 where
  -- the rules as functions; the first is that of bus 1
  pub rules : List Meaning
  -- the gateway's time
  pub gateway : ℕ
  pub messages : List Message

abbrev pub board_of : List Meaning → ℕ → List Message → Board
board_of rules gateway ms = record { rules = rules; gateway = gateway; messages = ms }

-- the number of buses
abbrev pub bus_count : Board → ℕ
bus_count b = length b.rules

-- what stands for a rule where there is no bus: every leg is over
abbrev pub no_rule : Meaning
no_rule legs n h = None

-- the rule of bus k, counted from 1
abbrev pub rule_at : List Meaning → ℕ → Meaning
rule_at [] k = no_rule
rule_at (f ∷ fs) zero = no_rule
rule_at (f ∷ fs) (suc zero) = f
rule_at (f ∷ fs) (suc (suc k)) = rule_at fs (suc k)

-- the message with that number
abbrev pub message_of : List Message → ℕ → Option Message
message_of [] n = None
message_of (m ∷ ms) n = cond (m.number == n) (Some m) (message_of ms n)

-- every message number is larger than n, and each is larger than the one before it
abbrev pub messages_from : ℕ → List Message → Bool
messages_from n [] = true
messages_from n (m ∷ ms) = nat_lt n m.number && messages_from m.number ms

-- the messages stand by rising number; numbers begin at 1
abbrev pub rising_messages : List Message → Bool
rising_messages ms = messages_from 0 ms

-- the source and every destination are among the first n buses
abbrev pub on_board : ℕ → Message → Bool
on_board n m = nat_le m.source n && nat_lt m.destinations (2 ^ n)

-- a rule that keeps the rule laws
pub record Keeps (f : Meaning) : Type 0 where
  pub bounded : Bounded f
  pub absent : Absent f
  pub shorter : Shorter f

-- the messages belong on a board of n buses
pub record Belong (n : ℕ) (ms : List Message) : Type 0 where
  pub rise : rising_messages ms ≡ true
  pub on_buses : list_all (on_board n) ms ≡ true

-- all that is asked of a board
pub record Sound (b : Board) : Type 0 where
  pub rules : AllByRecursion Keeps b.rules
  pub few : bus_count b ≤ 8
  pub messages : Belong (bus_count b) b.messages
