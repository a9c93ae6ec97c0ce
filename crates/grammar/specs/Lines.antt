-- The lines of a sheet: which tests each kind of line has to pass. A line that fails one has that fault.
use Rattle.std.specs.Prelude.{ℕ, suc, ◌^◌, Bool, true, false, cond, not, ◌&&◌, List, [], ◌∷◌, ◌++◌, length, codes, ◌==◌, nat_eq, nat_lt}
use Rattle.std.specs.Option.{unwrap_or}
use Rattle.bus.specs.Numbered.{member}
use Rattle.bus.specs.Range.{Span, inside, numbers, buses, payloads, periods, deadlines, jitters, bit_times, bridge_times}
use Rattle.bus.specs.declared.entry.Entry.{Entry}
use Rattle.bus.specs.declared.refusal.Refusal.{Refusal}
use Rattle.bus.specs.declared.refusal.Refusal.TheVariants.{Form, Count, Range, NoBus, SourceIsDestination, Taken}
use Rattle.frames.specs.Fd.{data_times}
use Rattle.grammar.specs.Numerals.{is_number, number_in}
use Rattle.grammar.specs.Text.{TextLine, words, word_at}
use Rattle.grammar.specs.Words.{same, is_kind, kind_in, is_fd, is_fast, is_to, set_in}
use Rattle.grammar.specs.declared.bus_line.BusLine.{BusLine}
use Rattle.grammar.specs.declared.kind.Kind.TheVariants.{Can11}
use Rattle.grammar.specs.declared.layer.Layer.{Layer}
use Rattle.grammar.specs.declared.layer.Layer.TheVariants.{Word, Rule, Board}

-- what is wrong with a line, at which of its words (0: the line as a whole), and who says so
pub record Fault : Type 0 where
  pub refusal : Refusal
  pub word : ℕ
  pub layer : Layer

-- a test of a line, and its fault where the test is not passed
pub record Test : Type 0 where
  pub passes : Bool
  pub fault : Fault

abbrev pub must : Bool → Refusal → ℕ → Layer → Test
must b refusal word layer = record { passes = b; fault = record { refusal = refusal; word = word; layer = layer } }

abbrev pub all_pass : List Test → Bool
all_pass [] = true
all_pass (t ∷ ts) = t.passes && all_pass ts

-- ---------------------------------------------------------------- the form of a line
-- `forms` says of each word that a line should have whether it keeps its form
abbrev pub word_tests : ℕ → List Bool → List Test
word_tests i [] = []
word_tests i (b ∷ bs) = must b Form i Word ∷ word_tests (suc i) bs

abbrev pub form_tests : List Bool → TextLine → List Test
form_tests forms l =
    let counted = nat_eq (length (words l.text)) (length forms) in
    must l.ended Form 0 Word ∷ must counted Form 0 Word ∷ cond counted (word_tests 1 forms) []

-- the values of a line are looked at only where it keeps the form
abbrev pub line_tests : List Bool → List Test → TextLine → List Test
line_tests forms values l = form_tests forms l ++ cond (all_pass (form_tests forms l)) values []

-- ---------------------------------------------------------------- the three lines of the contents
-- a keyword and a number
abbrev pub count_forms : List ℕ → List (List ℕ) → List Bool
count_forms keyword ws = same (word_at ws 1) keyword ∷ is_number (word_at ws 2) ∷ []

abbrev pub count_in : List (List ℕ) → ℕ
count_in ws = number_in (word_at ws 2)

abbrev pub bus_totals : Span
bus_totals = record { low = 1; high = 8 }

abbrev pub message_totals : Span
message_totals = record { low = 1; high = 64 }

abbrev pub gateway_times : Span
gateway_times = record { low = 0; high = 1000000000 }

abbrev pub buses_tests : TextLine → List Test
buses_tests l =
    let ws = words l.text in
    line_tests (count_forms (codes "buses") ws) (must (inside bus_totals (count_in ws)) Count 2 Word ∷ []) l

abbrev pub messages_tests : TextLine → List Test
messages_tests l =
    let ws = words l.text in
    line_tests (count_forms (codes "messages") ws) (must (inside message_totals (count_in ws)) Count 2 Word ∷ []) l

abbrev pub gateway_tests : TextLine → List Test
gateway_tests l =
    let ws = words l.text in
    line_tests (count_forms (codes "gateway") ws) (must (inside gateway_times (count_in ws)) Range 2 Board ∷ []) l

-- ---------------------------------------------------------------- the line of a bus
-- bus K KIND A d R
abbrev pub bus_forms : ℕ → List (List ℕ) → List Bool
bus_forms k ws =
    same (word_at ws 1) (codes "bus") ∷ (is_number (word_at ws 2) && number_in (word_at ws 2) == k) ∷ is_kind (word_at ws 3) ∷ is_number (word_at ws 4)
    ∷ is_fast (kind_in (word_at ws 3)) (word_at ws 5) ∷ is_number (word_at ws 6) ∷ []

abbrev pub bus_line_in : List (List ℕ) → BusLine
bus_line_in ws =
    let kind = unwrap_or (kind_in (word_at ws 3)) Can11 in
    record {
      kind = kind;
      bit = number_in (word_at ws 4);
      fast = cond (is_fd kind) (number_in (word_at ws 5)) 0;
      bridge = number_in (word_at ws 6);
    }

-- the data bit time is asked for on CAN FD alone
abbrev pub bus_values : BusLine → List Test
bus_values b =
    must (inside bit_times b.bit) Range 4 Rule
    ∷ must (cond (is_fd b.kind) (inside (data_times b.bit) b.fast) true) Range 5 Rule
    ∷ must (inside bridge_times b.bridge) Range 6 Rule
    ∷ []

abbrev pub bus_tests : ℕ → TextLine → List Test
bus_tests k l =
    let ws = words l.text in
    line_tests (bus_forms k ws) (bus_values (bus_line_in ws)) l

-- ---------------------------------------------------------------- the line of a message
-- msg NUMBER FROM TO LEN T D J
abbrev pub message_forms : List (List ℕ) → List Bool
message_forms ws =
    same (word_at ws 1) (codes "msg") ∷ is_number (word_at ws 2) ∷ is_number (word_at ws 3) ∷ is_to (word_at ws 4) ∷ is_number (word_at ws 5)
    ∷ is_number (word_at ws 6) ∷ is_number (word_at ws 7) ∷ is_number (word_at ws 8) ∷ []

abbrev pub entry_in : List (List ℕ) → Entry
entry_in ws =
    record {
      number = number_in (word_at ws 2);
      source = number_in (word_at ws 3);
      destinations = set_in (word_at ws 4);
      payload = number_in (word_at ws 5);
      period = number_in (word_at ws 6);
      deadline = number_in (word_at ws 7);
      jitter = number_in (word_at ws 8);
    }

-- one of the entries has the number
abbrev pub taken : List Entry → ℕ → Bool
taken [] n = false
taken (e ∷ es) n = cond (e.number == n) true (taken es n)

-- on a board of so many buses, after the earlier entries
abbrev pub entry_values : ℕ → List Entry → Entry → List Test
entry_values count earlier e =
    must (inside numbers e.number) Range 2 Board
    ∷ must (inside buses e.source) Range 3 Board
    ∷ must (inside payloads e.payload) Range 5 Board
    ∷ must (inside periods e.period) Range 6 Board
    ∷ must (inside (deadlines e.period) e.deadline) Range 7 Board
    ∷ must (inside (jitters e.deadline) e.jitter) Range 8 Board
    ∷ must (not (inside buses e.source && nat_lt count e.source)) NoBus 3 Board
    ∷ must (nat_lt e.destinations (2 ^ count)) NoBus 4 Board
    ∷ must (not (member e.destinations e.source)) SourceIsDestination 4 Board
    ∷ must (not (taken earlier e.number)) Taken 2 Board
    ∷ []

abbrev pub message_tests : ℕ → List Entry → TextLine → List Test
message_tests count earlier l =
    let ws = words l.text in
    line_tests (message_forms ws) (entry_values count earlier (entry_in ws)) l

-- ---------------------------------------------------------------- lines that are missing or surplus
abbrev pub missing_tests : List Test
missing_tests = must false Count 0 Word ∷ []

-- what a surplus line says is not read
abbrev pub surplus_tests : TextLine → List Test
surplus_tests l = must l.ended Form 0 Word ∷ must false Count 0 Word ∷ []
