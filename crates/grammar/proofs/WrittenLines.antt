-- The lines of a written sheet: each is read back, has no fault, and is short.
use Rattle.std.proofs.Common.{◌≡◌, ℕ, suc, ◌+◌, ◌^◌, ◌≤◌, Bool, true, cond, eqb, List, [], ◌∷◌, length, Some, codes, decimal, sym, refl, ap, ◌∙◌, subst, arith, pow_mono}
use Rattle.std.specs.List.{list_all, AllByRecursion}
use Rattle.std.proofs.lemmas.List.{length-append}
use Rattle.std.proofs.lemmas.List.Elements.{recursion_from_All}
use Rattle.std.proofs.lemmas.List.Sums.{AllPass-from_list_all}
use Rattle.std.proofs.lemmas.Bool.Decides.{nat_tests}
use Rattle.std.proofs.lemmas.Bool.{and_parts, and_from, eqb-true, ltb-true}
use Rattle.bus.specs.Range.{Span, inside, numbers, buses, payloads, periods, deadlines, jitters, bit_times, bridge_times}
use Rattle.bus.specs.declared.entry.Entry.{Entry}
use Rattle.bus.specs.declared.refusal.Refusal.{Refusal}
use Rattle.frames.specs.Fd.{data_times}
use Rattle.grammar.specs.Lines.{Test, must, all_pass, count_forms, count_in, bus_forms, bus_line_in, bus_values, message_forms, entry_in, entry_values, line_tests, bus_tests, message_tests}
use Rattle.grammar.specs.Numerals.{number_in}
use Rattle.grammar.specs.Text.{TextLine, lf, space, hyphen, words}
use Rattle.grammar.specs.Words.{same, is_fd, is_fast}
use Rattle.grammar.specs.Written.{behind_first, between, line_text, kind_text, bus_text, to_text, entry_text, lawful_bus}
use Rattle.grammar.specs.declared.bus_line.BusLine.{BusLine}
use Rattle.grammar.specs.declared.kind.Kind.{Kind}
use Rattle.grammar.specs.declared.kind.Kind.TheVariants.{Can11, Can29, Fd11}
use Rattle.grammar.specs.declared.layer.Layer.{Layer}
use Rattle.grammar.proofs.WrittenTests.{Faultless, faultless, faultless-line}
use Rattle.grammar.proofs.WrittenText.{above, clear, line_of, words-between}
use Rattle.grammar.proofs.WrittenWords.{Short, NumberWord, number_word, KindWord, kind_word, SetWord, set_word}

-- ---------------------------------------------------------------- any line
-- the tests of a line are those of the words that were put into it
module _ (forms : List (List ℕ) → List Bool) (values : List (List ℕ) → List Test) (w : List ℕ) (ws : List (List ℕ)) where
  line-passes : clear (w ∷ ws) ≡ true → length (w ∷ ws) ≡ length (forms (w ∷ ws)) → list_all (λ b. b) (forms (w ∷ ws)) ≡ true →
      Faultless (values (w ∷ ws)) →
      let vs = words (between space (w ∷ ws)) in
      Faultless (line_tests (forms vs) (values vs) (line_of (w ∷ ws)))
  line-passes far counted kept fine =
      let e = words-between w ws far in
      subst (λ (vs : List (List ℕ)). Faultless (line_tests (forms vs) (values vs) (line_of (w ∷ ws)))) (sym e)
      (faultless-line (forms (w ∷ ws)) (values (w ∷ ws)) (line_of (w ∷ ws)) refl (ap length e ∙ counted) kept fine)

-- the bytes of words, with one more behind each
abbrev total : List (List ℕ) → ℕ
total [] = 0
total (w ∷ ws) = suc (length w + total ws)

behind-long : (ws : List (List ℕ)) → length (behind_first space ws) ≡ total ws
behind-long [] = refl
behind-long (w ∷ ws) = omega (arith, length-append w (behind_first space ws), behind-long ws)

line-long : (w : List ℕ) (ws : List (List ℕ)) → length (line_text (w ∷ ws)) ≡ total (w ∷ ws)
line-long w ws =
    omega (arith, length-append (between space (w ∷ ws)) (lf ∷ []), length-append w (behind_first space ws), behind-long ws)

all-passed : (ts : List Test) → all_pass ts ≡ true → AllByRecursion (λ (t : Test). t.passes ≡ true) ts
all-passed ts h = recursion_from_All (λ (t : Test). t.passes ≡ true) ts (AllPass-from_list_all (λ (t : Test). t.passes) ts h)

pub inside-parts : (s : Span) (x : ℕ) → inside s x ≡ true → (s.low ≤ x) × (x ≤ s.high)
inside-parts s x h = grind (arith, nat_tests)

-- ---------------------------------------------------------------- the contents
abbrev pub count_words : List ℕ → ℕ → List (List ℕ)
count_words keyword n = keyword ∷ decimal n ∷ []

module _ (n : ℕ) (short : Short n) where
  pub count_back : (keyword : List ℕ) → count_in (count_words keyword n) ≡ n
  count_back keyword = (number_word n short).back

  pub count_clear : (keyword : List ℕ) → above space keyword ≡ true → clear (count_words keyword n) ≡ true
  count_clear keyword far = and_from _ _ far (and_from _ _ (number_word n short).clear refl)

  count_kept : (keyword : List ℕ) → same keyword keyword ≡ true → list_all (λ b. b) (count_forms keyword (count_words keyword n)) ≡ true
  count_kept keyword itself = and_from _ _ itself (and_from _ _ (number_word n short).is refl)

  pub count_long : (keyword : List ℕ) → length keyword ≤ 8 → length (line_text (count_words keyword n)) ≤ 21
  count_long keyword few = omega (arith, line-long keyword (decimal n ∷ []), (number_word n short).long)

  pub count_passes : (keyword : List ℕ) (span : Span) (refusal : Refusal) (layer : Layer) → above space keyword ≡ true →
      same keyword keyword ≡ true → inside span n ≡ true →
      let ws = words (between space (count_words keyword n)) in
      Faultless (line_tests (count_forms keyword ws) (must (inside span (count_in ws)) refusal 2 layer ∷ []) (line_of (count_words keyword n)))
  count_passes keyword span refusal layer far itself within =
      line-passes (count_forms keyword) (λ ws. must (inside span (count_in ws)) refusal 2 layer ∷ []) keyword (decimal n ∷ [])
      (count_clear keyword far) refl (count_kept keyword itself)
      (faultless (must (inside span (count_in (count_words keyword n))) refusal 2 layer ∷ [])
      (and_from _ _ (ap (inside span) (count_back keyword) ∙ within) refl))

-- ---------------------------------------------------------------- buses
-- what a word for the data bit time has to be
record FastWord (kind : Kind) (fast : ℕ) (w : List ℕ) : Type 0 where
  is : is_fast (Some kind) w ≡ true
  back : cond (is_fd kind) (number_in w) 0 ≡ fast
  clear : above space w ≡ true
  long : length w ≤ 11

abbrev fast_text : Kind → ℕ → List ℕ
fast_text kind fast = cond (is_fd kind) (decimal fast) (hyphen ∷ [])

fast_word : (kind : Kind) (fast : ℕ) → cond (is_fd kind) true (eqb fast 0) ≡ true → Short fast → FastWord kind fast (fast_text kind fast)
fast_word Can11 fast h short = record { is = refl; back = sym (eqb-true fast 0 h); clear = refl; long = omega arith }
fast_word Can29 fast h short = record { is = refl; back = sym (eqb-true fast 0 h); clear = refl; long = omega arith }
fast_word Fd11 fast h short =
    let w = number_word fast short in
    record { is = w.is; back = w.back; clear = w.clear; long = w.long }

-- the words of a bus line, and those behind its keyword
abbrev pub bus_rest : ℕ → BusLine → List (List ℕ)
bus_rest k b = decimal k ∷ kind_text b.kind ∷ decimal b.bit ∷ fast_text b.kind b.fast ∷ decimal b.bridge ∷ []

abbrev pub bus_words : ℕ → BusLine → List (List ℕ)
bus_words k b = codes "bus" ∷ bus_rest k b

-- any words that can stand in a bus line
record BusWords (k : ℕ) (b : BusLine) (number kind bit fast bridge : List ℕ) : Type 0 where
  numbered : NumberWord k number
  kinded : KindWord b.kind kind
  timed : NumberWord b.bit bit
  faster : FastWord b.kind b.fast fast
  bridged : NumberWord b.bridge bridge

module _ (k : ℕ) (b : BusLine) (number kind bit fast bridge : List ℕ) (is : BusWords k b number kind bit fast bridge) where
  bus_back_by : bus_line_in (codes "bus" ∷ number ∷ kind ∷ bit ∷ fast ∷ bridge ∷ []) ≡ b
  bus_back_by = rw (is.kinded.back, is.timed.back, is.faster.back, is.bridged.back)

  bus_kept_by : list_all (λ b. b) (bus_forms k (codes "bus" ∷ number ∷ kind ∷ bit ∷ fast ∷ bridge ∷ [])) ≡ true
  bus_kept_by = grind (arith, nat_tests, is.numbered.is, is.numbered.back, is.kinded.back, is.faster.is)

  bus_clear_by : clear (codes "bus" ∷ number ∷ kind ∷ bit ∷ fast ∷ bridge ∷ []) ≡ true
  bus_clear_by = grind arith

  bus_long_by : length (line_text (codes "bus" ∷ number ∷ kind ∷ bit ∷ fast ∷ bridge ∷ [])) ≤ 58
  bus_long_by = omega (arith, line-long (codes "bus") (number ∷ kind ∷ bit ∷ fast ∷ bridge ∷ []))

fast_short : (kind : Kind) (bit fast : ℕ) → cond (is_fd kind) (inside (data_times bit) fast) true ≡ true →
    cond (is_fd kind) true (eqb fast 0) ≡ true → bit ≤ 100000 → Short fast
fast_short Can11 bit fast h k few = omega (arith, eqb-true fast 0 k)
fast_short Can29 bit fast h k few = omega (arith, eqb-true fast 0 k)
fast_short Fd11 bit fast h k few = omega (arith, inside-parts (data_times bit) fast h)

bus_words-lawful : (k : ℕ) (b : BusLine) → Short k → lawful_bus b ≡ true →
    BusWords k b (decimal k) (kind_text b.kind) (decimal b.bit) (fast_text b.kind b.fast) (decimal b.bridge)
bus_words-lawful k b short h =
    let parts = and_parts (all_pass (bus_values b)) (cond (is_fd b.kind) true (eqb b.fast 0)) h in
    let p = all-passed (bus_values b) parts.0 in
    let bit = inside-parts bit_times b.bit p.0 in
    let bridge = inside-parts bridge_times b.bridge p.1.1.0 in
    record {
      numbered = number_word k short;
      kinded = kind_word b.kind;
      timed = number_word b.bit (omega arith);
      faster = fast_word b.kind b.fast parts.1 (fast_short b.kind b.bit b.fast p.1.0 parts.1 bit.1);
      bridged = number_word b.bridge (omega arith);
    }

-- the line of bus k
abbrev pub bus_line : ℕ → BusLine → TextLine
bus_line k b = line_of (bus_words k b)

module _ (k : ℕ) (b : BusLine) (short : Short k) (lawful : lawful_bus b ≡ true) where
  pub bus_back : bus_line_in (bus_words k b) ≡ b
  bus_back = bus_back_by _ _ _ _ _ _ _ (bus_words-lawful k b short lawful)

  pub bus_clear : clear (bus_words k b) ≡ true
  bus_clear = bus_clear_by _ _ _ _ _ _ _ (bus_words-lawful k b short lawful)

  pub bus_long : length (bus_text k b) ≤ 58
  bus_long = bus_long_by _ _ _ _ _ _ _ (bus_words-lawful k b short lawful)

  pub bus_passes : Faultless (bus_tests k (bus_line k b))
  bus_passes =
      line-passes (bus_forms k) (λ ws. bus_values (bus_line_in ws)) (codes "bus") (bus_rest k b) bus_clear refl
      (bus_kept_by _ _ _ _ _ _ _ (bus_words-lawful k b short lawful))
      (subst (λ (c : BusLine). Faultless (bus_values c)) (sym bus_back)
      (faultless (bus_values b) (and_parts (all_pass (bus_values b)) _ lawful).0))

-- ---------------------------------------------------------------- messages
-- the words of a message line, and those behind its keyword
abbrev pub entry_rest : Entry → List (List ℕ)
entry_rest e =
    decimal e.number ∷ decimal e.source ∷ to_text e.destinations ∷ decimal e.payload ∷ decimal e.period ∷ decimal e.deadline
    ∷ decimal e.jitter ∷ []

abbrev pub entry_words : Entry → List (List ℕ)
entry_words e = codes "msg" ∷ entry_rest e

-- any words that can stand in a message line
record EntryWords (e : Entry) (number source to payload period deadline jitter : List ℕ) : Type 0 where
  numbered : NumberWord e.number number
  sourced : NumberWord e.source source
  sent : SetWord e.destinations to
  paid : NumberWord e.payload payload
  repeated : NumberWord e.period period
  due : NumberWord e.deadline deadline
  late : NumberWord e.jitter jitter

module _ (e : Entry) (number source to payload period deadline jitter : List ℕ) (is : EntryWords e number source to payload period deadline jitter) where
  entry_back_by : entry_in (codes "msg" ∷ number ∷ source ∷ to ∷ payload ∷ period ∷ deadline ∷ jitter ∷ []) ≡ e
  entry_back_by =
      rw (is.numbered.back, is.sourced.back, is.sent.back, is.paid.back, is.repeated.back, is.due.back, is.late.back)

  entry_kept_by : list_all (λ b. b) (message_forms (codes "msg" ∷ number ∷ source ∷ to ∷ payload ∷ period ∷ deadline ∷ jitter ∷ [])) ≡ true
  entry_kept_by = grind arith

  entry_clear_by : clear (codes "msg" ∷ number ∷ source ∷ to ∷ payload ∷ period ∷ deadline ∷ jitter ∷ []) ≡ true
  entry_clear_by = grind arith

  entry_long_by : length (line_text (codes "msg" ∷ number ∷ source ∷ to ∷ payload ∷ period ∷ deadline ∷ jitter ∷ [])) ≤ 92
  entry_long_by = omega (arith, line-long (codes "msg") (number ∷ source ∷ to ∷ payload ∷ period ∷ deadline ∷ jitter ∷ []))

entry_words-lawful : (count : ℕ) (earlier : List Entry) (e : Entry) → count ≤ 8 → all_pass (entry_values count earlier e) ≡ true →
    EntryWords e (decimal e.number) (decimal e.source) (to_text e.destinations) (decimal e.payload) (decimal e.period)
    (decimal e.deadline) (decimal e.jitter)
entry_words-lawful count earlier e few h =
    let p = all-passed (entry_values count earlier e) h in
    let number = inside-parts numbers e.number p.0 in
    let source = inside-parts buses e.source p.1.0 in
    let payload = inside-parts payloads e.payload p.1.1.0 in
    let period = inside-parts periods e.period p.1.1.1.0 in
    let deadline = inside-parts (deadlines e.period) e.deadline p.1.1.1.1.0 in
    let jitter = inside-parts (jitters e.deadline) e.jitter p.1.1.1.1.1.0 in
    let set = ltb-true e.destinations (2 ^ count) p.1.1.1.1.1.1.1.0 in
    let few-sets = pow_mono few in
    record {
      numbered = number_word e.number (omega arith);
      sourced = number_word e.source (omega arith);
      sent = set_word e.destinations (omega arith);
      paid = number_word e.payload (omega arith);
      repeated = number_word e.period (omega arith);
      due = number_word e.deadline (omega arith);
      late = number_word e.jitter (omega arith);
    }

abbrev pub entry_line : Entry → TextLine
entry_line e = line_of (entry_words e)

module _ (count : ℕ) (earlier : List Entry) (e : Entry) (few : count ≤ 8) (lawful : all_pass (entry_values count earlier e) ≡ true) where
  pub entry_back : entry_in (entry_words e) ≡ e
  entry_back = entry_back_by _ _ _ _ _ _ _ _ (entry_words-lawful count earlier e few lawful)

  pub entry_clear : clear (entry_words e) ≡ true
  entry_clear = entry_clear_by _ _ _ _ _ _ _ _ (entry_words-lawful count earlier e few lawful)

  pub entry_long : length (entry_text e) ≤ 92
  entry_long = entry_long_by _ _ _ _ _ _ _ _ (entry_words-lawful count earlier e few lawful)

  pub entry_passes : Faultless (message_tests count earlier (entry_line e))
  entry_passes =
      line-passes message_forms (λ ws. entry_values count earlier (entry_in ws)) (codes "msg") (entry_rest e) entry_clear refl
      (entry_kept_by _ _ _ _ _ _ _ _ (entry_words-lawful count earlier e few lawful))
      (subst (λ (d : Entry). Faultless (entry_values count earlier d)) (sym entry_back) (faultless (entry_values count earlier e) lawful))
