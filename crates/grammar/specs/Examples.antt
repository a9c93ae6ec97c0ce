-- Small sheets, and what they mean.
use Rattle.std.specs.Prelude.{◌≡◌, ℕ, List, [], ◌∷◌, ◌++◌, Some, Ok, codes, Option}
use Rattle.std.specs.List.{flat_map}
use Rattle.bus.specs.declared.refusal.Refusal.{Refusal}
use Rattle.bus.specs.declared.refusal.Refusal.TheVariants.{Form, Count, Range, NoBus, SourceIsDestination, Taken}
use Rattle.grammar.specs.Content.{Content}
use Rattle.grammar.specs.Faults.{Placed, sheet_fault, meaning}
use Rattle.grammar.specs.Text.{lf}
use Rattle.grammar.specs.declared.kind.Kind.TheVariants.{Can11, Fd11}
use Rattle.grammar.specs.declared.layer.Layer.{Layer}
use Rattle.grammar.specs.declared.layer.Layer.TheVariants.{Word, Rule, Board}

-- a sheet of these lines
abbrev pub sheet_of : List (List ℕ) → List ℕ
sheet_of ls = flat_map (λ l. l ++ lf ∷ []) ls

abbrev pub fault_on : ℕ → Refusal → ℕ → Layer → Option Placed
fault_on line refusal word layer = Some (record { line = line; fault = record { refusal = refusal; word = word; layer = layer } })

-- a bus of each kind but one, and a message that crosses
abbrev pub small : Content
small =
    record {
      buses =
          record { kind = Can11; bit = 2000; fast = 0; bridge = 0 } ∷ record { kind = Fd11; bit = 2000; fast = 500; bridge = 7 } ∷ [];
      gateway = 100000;
      entries =
          record { number = 1; source = 1; destinations = 2; payload = 8; period = 10000000; deadline = 1500000; jitter = 0 } ∷ [];
    }

abbrev pub small_lines : List (List ℕ)
small_lines =
    codes "buses 2" ∷ codes "messages 1" ∷ codes "gateway 100000" ∷ codes "bus 1 can11 2000 - 0" ∷ codes "bus 2 fd11 2000 500 7"
    ∷ codes "msg 1 1 2 8 10000000 1500000 0" ∷ []

-- the lines in front of one that is tried, on a board of two classic buses, for two messages
abbrev pub front : List (List ℕ)
front = codes "buses 2" ∷ codes "messages 2" ∷ codes "gateway 100000" ∷ codes "bus 1 can11 2000 - 0" ∷ codes "bus 2 can11 2000 - 0" ∷ []

abbrev pub fault_of : List (List ℕ) → Option Placed
fault_of ls = sheet_fault (sheet_of ls)

pub record WorkedSheets : Type 0 where
  pub read : meaning (sheet_of small_lines) ≡ Ok small
  pub empty : sheet_fault [] ≡ fault_on 1 Count 0 Word
  pub unended : sheet_fault (codes "buses 2") ≡ fault_on 1 Form 0 Word
  pub nine_buses : fault_of (codes "buses 9" ∷ []) ≡ fault_on 1 Count 2 Word
  pub leading_zero : fault_of (codes "buses 02" ∷ []) ≡ fault_on 1 Form 2 Word
  pub slow : fault_of (codes "buses 1" ∷ codes "messages 1" ∷ codes "gateway 1000000001" ∷ []) ≡ fault_on 3 Range 2 Board
  pub kind : fault_of (codes "buses 1" ∷ codes "messages 1" ∷ codes "gateway 1" ∷ codes "bus 1 can12 2000 - 0" ∷ []) ≡ fault_on 4 Form 3 Word
  pub data_bit : fault_of (codes "buses 1" ∷ codes "messages 1" ∷ codes "gateway 1" ∷ codes "bus 1 fd11 2000 2001 0" ∷ []) ≡ fault_on 4 Range 5 Rule
  pub doubled_space : fault_of (front ++ codes "msg 1 1 2  8 10000000 1500000 0" ∷ []) ≡ fault_on 6 Form 0 Word
  pub falling : fault_of (front ++ codes "msg 1 1 2,1 8 10000000 1500000 0" ∷ []) ≡ fault_on 6 Form 4 Word
  pub late : fault_of (front ++ codes "msg 1 1 2 8 10000000 10000001 0" ∷ []) ≡ fault_on 6 Range 7 Board
  pub off_board : fault_of (front ++ codes "msg 1 3 4 8 10000000 1500000 0" ∷ []) ≡ fault_on 6 NoBus 3 Board
  pub itself : fault_of (front ++ codes "msg 1 2 1,2 8 10000000 1500000 0" ∷ []) ≡ fault_on 6 SourceIsDestination 4 Board
  pub twice : fault_of (front ++ codes "msg 7 1 2 8 10000000 1500000 0" ∷ codes "msg 7 1 - 8 10000000 1500000 0" ∷ []) ≡ fault_on 7 Taken 2 Board
  pub missing : fault_of (front ++ codes "msg 7 1 2 8 10000000 1500000 0" ∷ []) ≡ fault_on 7 Count 0 Word
  pub surplus : fault_of (small_lines ++ [] ∷ []) ≡ fault_on 7 Count 0 Word
