-- The fault that is reported of a sheet is the least.
use Rattle.std.proofs.Common.{◌≡◌, ℕ, zero, suc, ◌+◌, ◌-◌, ◌<◌, ◌≤◌, Bool, true, false, cond, List, [], ◌∷◌, length, Some, None, Ok, MatchBool, Option, sym, refl, ap, ◌∙◌, subst, inl, inr, arith}
use Rattle.std.proofs.lemmas.Bool.{cases_eq, cases_order, cases_lt, lt-leb}
use Rattle.std.proofs.lemmas.Bool.Decides.{nat_tests}
use Rattle.std.proofs.lemmas.Option.{none-some}
use Rattle.grammar.specs.Content.{Content, content_of, last_wanted}
use Rattle.grammar.specs.Faults.{Finds, tests_at, too_long, length_fault, FaultAt, reported, Placed, first_bad, line_count, sheet_fault, meaning}
use Rattle.grammar.specs.Laws.{NotBefore, ReportedIsLeast, FaultlessIsRead, ReadIsFaultless}
use Rattle.grammar.specs.Lines.{Fault, Test}
use Rattle.grammar.specs.Text.{TextLine, lines_of, line_at}
use Rattle.grammar.proofs.Tests.{not_after-same, none_found, reported-found, reported-least}
use Rattle.grammar.proofs.Ordered.{ordered-tests}

-- ---------------------------------------------------------------- the first bad line
-- line i has no fault
abbrev Good : List TextLine → ℕ → Type 0
Good ls i = reported (tests_at ls i) ≡ None

-- p is on a line from i on, with the fault that is reported of that line, and the lines before it are good
record First (ls : List TextLine) (i : ℕ) (p : Placed) : Type 0 where
  from : i ≤ p.line
  fault : reported (tests_at ls p.line) ≡ Some p.fault
  earlier : (j : ℕ) → i ≤ j → j < p.line → Good ls j

-- line i and the later ones
from_here : (ls : List TextLine) (i : ℕ) → Good ls i → (P : ℕ → Type 0) → ((j : ℕ) → suc i ≤ j → P j → Good ls j) →
    (j : ℕ) → i ≤ j → P j → Good ls j
from_here ls i here P later j low h = grind (arith, cases_eq i j, later j)

first-bad : (ls : List TextLine) (n i : ℕ) (p : Placed) → first_bad ls i n ≡ Some p → First ls i p
first-bad ls zero i p h = absurd (none-some p h)
first-bad ls (suc n) i p h = by (reported (tests_at ls i)) refl (first-bad ls n (suc i) p)
  where
    by : (o : Option Fault) → reported (tests_at ls i) ≡ o → (first_bad ls (suc i) n ≡ Some p → First ls (suc i) p) → First ls i p
    by None e rest =
        let r = rest (rw e at h) in
        record {
          from = omega (arith, r.from);
          fault = r.fault;
          earlier = from_here ls i e (λ j. j < p.line) r.earlier;
        }
    by (Some f) e rest =
        let g : Some (record { line = i; fault = f }) ≡ Some p = rw e at h in
        let same : record { line = i; fault = f } ≡ p = cc in
        subst (First ls i) same (record { from = omega arith; fault = e; earlier = λ j low high. absurd (omega arith) })

all-good : (ls : List TextLine) (n i : ℕ) → first_bad ls i n ≡ None → (j : ℕ) → i ≤ j → j < i + n → Good ls j
all-good ls zero i h j low high = absurd (omega arith)
all-good ls (suc n) i h j low high = grind (arith, cases_eq i j, all-good ls n (suc i))

-- ---------------------------------------------------------------- past the last line
no_line : (ls : List TextLine) (i : ℕ) → length ls < i → line_at ls i ≡ None
no_line [] i h = refl
no_line (l ∷ ls) i h = grind (arith, nat_tests, no_line ls (i - 1))

no_tests : (ls : List TextLine) (i : ℕ) → line_count ls < i → tests_at ls i ≡ []
unfolding tests_at
no_tests ls i h = rw (lt-leb i (last_wanted ls) (omega arith), no_line ls i (omega arith)) refl

-- ---------------------------------------------------------------- sheets
-- the fault that is reported of these lines, and the faults that they have, by whether they are too long
abbrev fault_in : Bool → List TextLine → Option Placed
fault_in long ls = cond long (Some (record { line = 0; fault = length_fault })) (first_bad ls 1 (line_count ls))

abbrev FaultIn : Bool → List TextLine → ℕ → Fault → Type 0
FaultIn long ls i f = MatchBool long ((i ≡ 0) × (f ≡ length_fault)) ((1 ≤ i) × Finds (tests_at ls i) f)

not_before : (ls : List TextLine) (p : Placed) → First ls 1 p → (i : ℕ) (f : Fault) → 1 ≤ i → Finds (tests_at ls i) f →
    NotBefore p (record { line = i; fault = f })
not_before ls p first i f low m =
    elim (cases_order p.line i) [
      | inl same ↦
          let found : Finds (tests_at ls p.line) f = subst (λ (x : ℕ). Finds (tests_at ls x) f) (sym same) m in
          inr (same, reported-least (tests_at ls p.line) (ordered-tests ls p.line) p.fault first.fault f found)
      | inr (inl before) ↦ inl before
      | inr (inr behind) ↦ absurd (none_found (tests_at ls i) (first.earlier i low behind) f m)
    ]

least-in : (long : Bool) (ls : List TextLine) (p : Placed) → fault_in long ls ≡ Some p →
    FaultIn long ls p.line p.fault × ((i : ℕ) (f : Fault) → FaultIn long ls i f → NotBefore p (record { line = i; fault = f }))
least-in true ls p h =
    let same : record { line = 0; fault = length_fault } ≡ p = cc in
    let line : 0 ≡ p.line = ap (λ (q : Placed). q.line) same in
    let fault : length_fault ≡ p.fault = ap (λ (q : Placed). q.fault) same in
    ((sym line, sym fault), λ i f m. inr (sym line ∙ sym m.0, not_after-same p.fault f (sym fault ∙ sym m.1)))
least-in false ls p h =
    let first = first-bad ls (line_count ls) 1 p h in
    ((first.from, reported-found (tests_at ls p.line) p.fault first.fault), λ i f m. not_before ls p first i f m.0 m.1)

none_in : (long : Bool) (ls : List TextLine) → fault_in long ls ≡ None → (i : ℕ) (f : Fault) → FaultIn long ls i f → ⊥
none_in true ls h i f m = grind arith
none_in false ls h i f m =
    elim (cases_lt (line_count ls) i) [
      | inl past ↦ subst (λ (ts : List Test). Finds ts f) (no_tests ls i past) m.1
      | inr within ↦ none_found (tests_at ls i) (all-good ls (line_count ls) 1 h i m.0 (omega arith)) f m.1
    ]

pub reported-is_least : ReportedIsLeast
unfolding sheet_fault
reported-is_least bytes p h = least-in (too_long bytes) (lines_of bytes) p h

none_of : (bytes : List ℕ) → sheet_fault bytes ≡ None → (i : ℕ) (f : Fault) → FaultAt bytes i f → ⊥
unfolding sheet_fault
none_of bytes h = none_in (too_long bytes) (lines_of bytes) h

pub faultless-is_read : FaultlessIsRead
faultless-is_read bytes none = by (sheet_fault bytes) refl
  where
    by : (o : Option Placed) → sheet_fault bytes ≡ o → (c : Content) × (meaning bytes ≡ Ok c)
    by None e = (content_of (lines_of bytes), rw e refl)
    by (Some p) e = absurd (none p.line p.fault (reported-is_least bytes p e).0)

pub read_is_faultless : ReadIsFaultless
read_is_faultless bytes c h = by (sheet_fault bytes) refl
  where
    by : (o : Option Placed) → sheet_fault bytes ≡ o → (i : ℕ) (f : Fault) → FaultAt bytes i f → ⊥
    by None e = none_of bytes e
    by (Some p) e = grind arith
