-- What is claimed of the faults of sheets, and of written sheets.
use Rattle.std.specs.Prelude.{◌≡◌, ℕ, ◌<◌, ◌≤◌, true, ◌⊎◌, List, Some, Ok}
use Rattle.bus.specs.Refusals.{number_of}
use Rattle.grammar.specs.Content.{Content}
use Rattle.grammar.specs.Faults.{Placed, FaultAt, sheet_fault, meaning}
use Rattle.grammar.specs.Lines.{Fault}
use Rattle.grammar.specs.Written.{lawful, sheet_text}

-- the second does not come before the first: by line, then by number, then by word
abbrev pub NotBefore : Placed → Placed → Type 0
NotBefore p q =
    let a = p.fault in
    let b = q.fault in
    (p.line < q.line)
    ⊎ ((p.line ≡ q.line) × ((number_of a.refusal < number_of b.refusal) ⊎ ((number_of a.refusal ≡ number_of b.refusal) × (a.word ≤ b.word))))

-- the reported fault is a fault of the sheet, and no fault of the sheet comes before it
abbrev pub ReportedIsLeast : Type 0
ReportedIsLeast = (bytes : List ℕ) (p : Placed) → sheet_fault bytes ≡ Some p →
    FaultAt bytes p.line p.fault × ((i : ℕ) (f : Fault) → FaultAt bytes i f → NotBefore p (record { line = i; fault = f }))

-- a sheet has a meaning exactly where it has no fault
abbrev pub FaultlessIsRead : Type 0
FaultlessIsRead = (bytes : List ℕ) → ((i : ℕ) (f : Fault) → FaultAt bytes i f → ⊥) → (c : Content) × (meaning bytes ≡ Ok c)

abbrev pub ReadIsFaultless : Type 0
ReadIsFaultless = (bytes : List ℕ) (c : Content) → meaning bytes ≡ Ok c → (i : ℕ) (f : Fault) → FaultAt bytes i f → ⊥

-- every lawful board can be written as a sheet, and reading that sheet gives the board back
abbrev pub WrittenIsReadBack : Type 0
WrittenIsReadBack = (c : Content) → lawful c ≡ true → meaning (sheet_text c) ≡ Ok c
