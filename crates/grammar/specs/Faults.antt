-- The faults of a sheet, which of them is reported, and what a sheet without faults means.
use Rattle.std.specs.Prelude.{◌≡◌, ℕ, zero, suc, ◌-◌, ◌≤◌, max, Bool, false, cond, ◌⊎◌, List, [], ◌∷◌, length, Some, None, Ok, Err, MatchBool, Option, Result, ◌==◌, nat_le, nat_lt}
use Rattle.bus.specs.declared.refusal.Refusal.TheVariants.{Count}
use Rattle.grammar.specs.Content.{Content, content_of, bus_total, first_message, last_wanted, earlier_than}
use Rattle.grammar.specs.Lines.{Fault, Test, buses_tests, messages_tests, gateway_tests, bus_tests, message_tests, missing_tests, surplus_tests}
use Rattle.grammar.specs.Text.{TextLine, lines_of, line_at}
use Rattle.grammar.specs.declared.layer.Layer.TheVariants.{Word}

-- ---------------------------------------------------------------- the faults of each line
-- the tests of line i, which is wanted
abbrev pub tests_of : List TextLine → ℕ → TextLine → List Test
tests_of ls i l =
    cond (i == 1) (buses_tests l)
    (cond (i == 2) (messages_tests l)
    (cond (i == 3) (gateway_tests l)
    (cond (nat_lt i (first_message ls)) (bus_tests (i - 3) l) (message_tests (bus_total ls) (earlier_than ls i) l))))

abbrev pub wanted_tests : List TextLine → ℕ → Option TextLine → List Test
wanted_tests ls i None = missing_tests
wanted_tests ls i (Some l) = tests_of ls i l

abbrev pub unwanted_tests : Option TextLine → List Test
unwanted_tests None = []
unwanted_tests (Some l) = surplus_tests l

-- the tests of line i, by what the contents announce
unfoldable pub tests_at : List TextLine → ℕ → List Test
tests_at ls i = cond (nat_le i (last_wanted ls)) (wanted_tests ls i (line_at ls i)) (unwanted_tests (line_at ls i))

-- a fault among those that the tests find
abbrev pub Finds : List Test → Fault → Type 0
Finds [] f = ⊥
Finds (t ∷ ts) f = ((t.passes ≡ false) × (t.fault ≡ f)) ⊎ Finds ts f

-- the most bytes of a sheet
abbrev pub sheet_limit : ℕ
sheet_limit = 8192

abbrev pub too_long : List ℕ → Bool
too_long bytes = nat_lt sheet_limit (length bytes)

abbrev pub length_fault : Fault
length_fault = record { refusal = Count; word = 0; layer = Word }

-- The sheet has this fault on line i; line 0 stands for the sheet as a whole. A sheet that is too long is not read, and has no other fault.
abbrev pub FaultAt : List ℕ → ℕ → Fault → Type 0
FaultAt bytes i f = MatchBool (too_long bytes) ((i ≡ 0) × (f ≡ length_fault)) ((1 ≤ i) × Finds (tests_at (lines_of bytes) i) f)

-- ---------------------------------------------------------------- the fault that is reported
-- The tests of a line stand by rising number, and then by word: the first that is not passed tells the fault.
abbrev pub reported : List Test → Option Fault
reported [] = None
reported (t ∷ ts) = cond t.passes (reported ts) (Some t.fault)

-- a fault with its line
pub record Placed : Type 0 where
  pub line : ℕ
  pub fault : Fault

abbrev pub on_line : ℕ → Option Fault → Option Placed → Option Placed
on_line i None rest = rest
on_line i (Some f) rest = Some (record { line = i; fault = f })

-- that of the first bad line, among n lines from line i on
abbrev pub first_bad : List TextLine → ℕ → ℕ → Option Placed
first_bad ls i zero = None
first_bad ls i (suc n) = on_line i (reported (tests_at ls i)) (first_bad ls (suc i) n)

-- the lines that are wanted, and those that are there
abbrev pub line_count : List TextLine → ℕ
line_count ls = max (last_wanted ls) (length ls)

unfoldable pub sheet_fault : List ℕ → Option Placed
sheet_fault bytes =
    let ls = lines_of bytes in
    cond (too_long bytes) (Some (record { line = 0; fault = length_fault })) (first_bad ls 1 (line_count ls))

abbrev pub or_content : Option Placed → Content → Result Content Placed
or_content None c = Ok c
or_content (Some p) c = Err p

-- what a sheet means: the board that it describes, or the fault that is reported
abbrev pub meaning : List ℕ → Result Content Placed
meaning bytes = or_content (sheet_fault bytes) (content_of (lines_of bytes))
