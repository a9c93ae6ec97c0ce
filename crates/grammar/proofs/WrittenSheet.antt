-- A lawful board, written as a sheet, is read back.
use Rattle.std.proofs.Common.{◌≡◌, ℕ, suc, ◌+◌, ◌-◌, ◌*◌, ◌≤◌, true, false, List, [], ◌∷◌, ◌++◌, map, length, drop, Some, None, codes, decimal, sym, refl, ap, ◌∙◌, ap₂, arith}
use Rattle.std.specs.List.{list_all, flat_map}
use Rattle.std.proofs.lemmas.List.{append_assoc, length-append, length-map, drop-drop, drop_at}
use Rattle.std.proofs.lemmas.Bool.{and_parts, cond-false, le-ltb}
use Rattle.bus.specs.Range.{inside}
use Rattle.bus.specs.declared.entry.Entry.{Entry}
use Rattle.bus.specs.declared.refusal.Refusal.TheVariants.{Count, Range}
use Rattle.boards.specs.Nets.{numbers_from}
use Rattle.grammar.specs.Content.{Content, words_of, bus_total, message_total, gateway_time, first_message, entry_at, content_of}
use Rattle.grammar.specs.Faults.{tests_of, tests_at, reported, too_long, line_count, first_bad, sheet_limit, sheet_fault, or_content}
use Rattle.grammar.specs.Laws.{WrittenIsReadBack}
use Rattle.grammar.specs.Lines.{all_pass, count_in, bus_totals, message_totals, gateway_times, bus_line_in, entry_values}
use Rattle.grammar.specs.Text.{TextLine, lines_of, line_at}
use Rattle.grammar.specs.Written.{bus_text, bus_texts, entry_text, count_text, sheet_text, lawful_bus, lawful_entries, lawful}
use Rattle.grammar.specs.declared.bus_line.BusLine.{BusLine}
use Rattle.grammar.specs.declared.layer.Layer.TheVariants.{Word, Board}
use Rattle.grammar.proofs.WrittenLines.{
  inside-parts,
  count_words,
  count_back,
  count_clear,
  count_long,
  count_passes,
  bus_words,
  bus_line,
  bus_clear,
  bus_long,
  entry_words,
  entry_line,
  entry_clear,
  entry_long,
}
use Rattle.grammar.proofs.WrittenPlaces.{line-at, drop_next, words-at}
use Rattle.grammar.proofs.WrittenText.{clear, line_of, lines-first}
use Rattle.grammar.proofs.WrittenWalk.{bus_lines, Fine, buses-read, entries_read, fine-step, tests-wanted, buses-fine, entries_fine}
use Rattle.grammar.proofs.WrittenWords.{Short}

-- ---------------------------------------------------------------- buses and messages
buses-lines : (k : ℕ) (bs : List BusLine) (rest : List ℕ) → list_all lawful_bus bs ≡ true → k + length bs ≤ 9 →
    lines_of (bus_texts k bs ++ rest) ≡ bus_lines k bs ++ lines_of rest
buses-lines k [] rest h few = refl
buses-lines k (b ∷ bs) rest h few =
    let both = and_parts (lawful_bus b) (list_all lawful_bus bs) h in
    ap lines_of (append_assoc (bus_text k b) (bus_texts (suc k) bs) rest)
    ∙ lines-first (bus_words k b) (bus_texts (suc k) bs ++ rest) (bus_clear k b (omega arith) both.0)
    ∙ ap (λ ls. bus_line k b ∷ ls) (buses-lines (suc k) bs rest both.1 (omega arith))

buses-long : (k : ℕ) (bs : List BusLine) → list_all lawful_bus bs ≡ true → k + length bs ≤ 9 → length (bus_texts k bs) ≤ 58 * length bs
buses-long k [] h few = omega arith
buses-long k (b ∷ bs) h few =
    let both = and_parts (lawful_bus b) (list_all lawful_bus bs) h in
    let rest = buses-long (suc k) bs both.1 (omega arith) in
    omega (arith, length-append (bus_text k b) (bus_texts (suc k) bs), bus_long k b (omega arith) both.0)

buses-counted : (k : ℕ) (bs : List BusLine) → length (bus_lines k bs) ≡ length bs
buses-counted k [] = refl
buses-counted k (b ∷ bs) = ap suc (buses-counted (suc k) bs)

module _ (count : ℕ) (few : count ≤ 8) where
  entries_lines : (earlier es : List Entry) → lawful_entries count earlier es ≡ true → lines_of (flat_map entry_text es) ≡ map entry_line es
  entries_lines earlier [] h = refl
  entries_lines earlier (e ∷ es) h =
      let both = and_parts (all_pass (entry_values count earlier e)) (lawful_entries count (earlier ++ e ∷ []) es) h in
      lines-first (entry_words e) (flat_map entry_text es) (entry_clear count earlier e few both.0)
      ∙ ap (λ ls. entry_line e ∷ ls) (entries_lines (earlier ++ e ∷ []) es both.1)

  entries_long : (earlier es : List Entry) → lawful_entries count earlier es ≡ true → length (flat_map entry_text es) ≤ 92 * length es
  entries_long earlier [] h = omega arith
  entries_long earlier (e ∷ es) h =
      let both = and_parts (all_pass (entry_values count earlier e)) (lawful_entries count (earlier ++ e ∷ []) es) h in
      let rest = entries_long (earlier ++ e ∷ []) es both.1 in
      omega (arith, length-append (entry_text e) (flat_map entry_text es), entry_long count earlier e few both.0)

-- ---------------------------------------------------------------- the parts of a lawful board
record Parts (c : Content) : Type 0 where
  counted : inside bus_totals (length c.buses) ≡ true
  sent : inside message_totals (length c.entries) ≡ true
  timed : inside gateway_times c.gateway ≡ true
  buses : list_all lawful_bus c.buses ≡ true
  entries : lawful_entries (length c.buses) [] c.entries ≡ true
  few : length c.buses ≤ 8
  many : length c.entries ≤ 64
  soon : Short c.gateway

parts-of : (c : Content) → lawful c ≡ true → Parts c
parts-of c h =
    record {
      counted = grind arith;
      sent = grind arith;
      timed = grind arith;
      buses = grind arith;
      entries = grind arith;
      few = (inside-parts bus_totals (length c.buses) (grind arith)).1;
      many = (inside-parts message_totals (length c.entries) (grind arith)).1;
      soon = omega (arith, (inside-parts gateway_times c.gateway (grind arith)).1);
    }

-- ---------------------------------------------------------------- the lines of the sheet
abbrev lines_behind : Content → List TextLine
lines_behind c = bus_lines 1 c.buses ++ map entry_line c.entries

abbrev first_line : Content → TextLine
first_line c = line_of (count_words (codes "buses") (length c.buses))

abbrev second_line : Content → TextLine
second_line c = line_of (count_words (codes "messages") (length c.entries))

abbrev third_line : Content → TextLine
third_line c = line_of (count_words (codes "gateway") c.gateway)

abbrev sheet_lines : Content → List TextLine
sheet_lines c = first_line c ∷ second_line c ∷ third_line c ∷ lines_behind c

module _ (c : Content) (is : Parts c) where
  few_short : Short (length c.buses)
  few_short = omega (arith, is.few)

  many_short : Short (length c.entries)
  many_short = omega (arith, is.many)

  lines_of-sheet : lines_of (sheet_text c) ≡ sheet_lines c
  unfolding sheet_text
  lines_of-sheet =
      let messages = flat_map entry_text c.entries in
      let behind = bus_texts 1 c.buses ++ messages in
      let third = count_text (codes "gateway") c.gateway ++ behind in
      let second = count_text (codes "messages") (length c.entries) ++ third in
      lines-first (count_words (codes "buses") (length c.buses)) second (count_clear (length c.buses) few_short (codes "buses") refl)
      ∙ ap (λ ls. first_line c ∷ ls)
      (lines-first (count_words (codes "messages") (length c.entries)) third
      (count_clear (length c.entries) many_short (codes "messages") refl)
      ∙ ap (λ ls. second_line c ∷ ls)
      (lines-first (count_words (codes "gateway") c.gateway) behind (count_clear c.gateway is.soon (codes "gateway") refl)
      ∙ ap (λ ls. third_line c ∷ ls)
      (buses-lines 1 c.buses messages is.buses (omega (arith, is.few))
      ∙ ap (λ ls. bus_lines 1 c.buses ++ ls) (entries_lines (length c.buses) is.few [] c.entries is.entries))))

  sheet_short : too_long (sheet_text c) ≡ false
  unfolding sheet_text
  sheet_short =
      let messages = flat_map entry_text c.entries in
      let behind = bus_texts 1 c.buses ++ messages in
      let third = count_text (codes "gateway") c.gateway ++ behind in
      let second = count_text (codes "messages") (length c.entries) ++ third in
      le-ltb sheet_limit _
      (omega (
        arith,
        is.few,
        is.many,
        length-append (count_text (codes "buses") (length c.buses)) second,
        length-append (count_text (codes "messages") (length c.entries)) third,
        length-append (count_text (codes "gateway") c.gateway) behind,
        length-append (bus_texts 1 c.buses) messages,
        count_long (length c.buses) few_short (codes "buses") (omega arith),
        count_long (length c.entries) many_short (codes "messages") (omega arith),
        count_long c.gateway is.soon (codes "gateway") (omega arith),
        buses-long 1 c.buses is.buses (omega (arith, is.few)),
        entries_long (length c.buses) is.few [] c.entries is.entries,
      ))

-- ---------------------------------------------------------------- reading these lines
content-same : (c d : Content) → c.buses ≡ d.buses → c.gateway ≡ d.gateway → c.entries ≡ d.entries → c ≡ d
content-same c d p q r = λ i. record { buses = p i; gateway = q i; entries = r i }

module _ (c : Content) (is : Parts c) (ls : List TextLine) (shape : ls ≡ sheet_lines c) where
  behind-first : drop 1 ls ≡ second_line c ∷ third_line c ∷ lines_behind c
  behind-first = drop_next ls 0 (first_line c) (second_line c ∷ third_line c ∷ lines_behind c) shape

  behind-second : drop 2 ls ≡ third_line c ∷ lines_behind c
  behind-second = drop_next ls 1 (second_line c) (third_line c ∷ lines_behind c) behind-first

  behind-third : drop 3 ls ≡ lines_behind c
  behind-third = drop_next ls 2 (third_line c) (lines_behind c) behind-second

  at_first : line_at ls 1 ≡ Some (first_line c)
  at_first = line-at ls 0 (first_line c) (second_line c ∷ third_line c ∷ lines_behind c) shape

  at_second : line_at ls 2 ≡ Some (second_line c)
  at_second = line-at ls 1 (second_line c) (third_line c ∷ lines_behind c) behind-first

  at-third : line_at ls 3 ≡ Some (third_line c)
  at-third = line-at ls 2 (third_line c) (lines_behind c) behind-second

  -- the number on a line of the contents
  number_at : (i n : ℕ) (keyword : List ℕ) → Short n → clear (count_words keyword n) ≡ true → line_at ls i ≡ Some (line_of (count_words keyword n)) →
      count_in (words_of ls i) ≡ n
  number_at i n keyword short far here = ap count_in (words-at ls i keyword (decimal n ∷ []) far here) ∙ count_back n short keyword

  bus_total-is : bus_total ls ≡ length c.buses
  bus_total-is =
      number_at 1 (length c.buses) (codes "buses") (few_short c is)
      (count_clear (length c.buses) (few_short c is) (codes "buses") refl) at_first

  message_total-is : message_total ls ≡ length c.entries
  message_total-is =
      number_at 2 (length c.entries) (codes "messages") (many_short c is)
      (count_clear (length c.entries) (many_short c is) (codes "messages") refl) at_second

  gateway_time-is : gateway_time ls ≡ c.gateway
  gateway_time-is =
      number_at 3 c.gateway (codes "gateway") is.soon (count_clear c.gateway is.soon (codes "gateway") refl) at-third

  behind-buses : drop (3 + length c.buses) ls ≡ map entry_line c.entries
  behind-buses =
      sym (drop-drop (length c.buses) 3 ls)
      ∙ ap (drop (length c.buses)) behind-third
      ∙ drop_at (bus_lines 1 c.buses) (map entry_line c.entries) (length c.buses) (buses-counted 1 c.buses)

  content-back : content_of ls ≡ c
  content-back =
      let first : first_message ls ≡ suc (3 + length c.buses) = omega (arith, bus_total-is) in
      content-same (content_of ls) c
      (ap (λ m. map (λ i. bus_line_in (words_of ls i)) (numbers_from 4 m)) bus_total-is
      ∙ buses-read ls 1 3 c.buses (map entry_line c.entries) is.buses (omega (arith, is.few)) behind-third)
      gateway_time-is
      (ap₂ (λ k m. map (entry_at ls) (numbers_from k m)) first message_total-is
      ∙ entries_read ls (length c.buses) (3 + length c.buses) [] c.entries is.few is.entries behind-buses)

  lines-counted : line_count ls ≡ length (sheet_lines c)
  lines-counted =
      omega (
        arith,
        bus_total-is,
        message_total-is,
        ap length shape,
        length-append (bus_lines 1 c.buses) (map entry_line c.entries),
        buses-counted 1 c.buses,
        length-map c.entries entry_line,
      )

  wanted : (i : ℕ) (l : TextLine) → i ≤ 3 → line_at ls i ≡ Some l → tests_at ls i ≡ tests_of ls i l
  wanted i l low here = tests-wanted ls (length c.buses) (length c.entries) bus_total-is message_total-is i l (omega arith) here

  behind-fine : (m : ℕ) → m ≡ 3 + length c.buses → drop m ls ≡ map entry_line c.entries → Fine ls (suc m) (length (map entry_line c.entries))
  behind-fine m up left =
      let none : suc m - first_message ls ≡ 0 = omega (arith, bus_total-is) in
      entries_fine ls (length c.buses) (length c.entries) bus_total-is message_total-is m [] c.entries is.few is.entries
      (omega arith) (omega arith) (ap (λ d. map (entry_at ls) (numbers_from (first_message ls) d)) none) left

  all-fine : Fine ls 1 (length (sheet_lines c))
  all-fine =
      fine-step ls 1 (suc (suc (length (lines_behind c))))
      (ap reported (wanted 1 (first_line c) (omega arith) at_first)
      ∙ count_passes (length c.buses) (few_short c is) (codes "buses") bus_totals Count Word refl refl is.counted)
      (fine-step ls 2 (suc (length (lines_behind c)))
      (ap reported (wanted 2 (second_line c) (omega arith) at_second)
      ∙ count_passes (length c.entries) (many_short c is) (codes "messages") message_totals Count Word refl refl is.sent)
      (fine-step ls 3 (length (lines_behind c))
      (ap reported (wanted 3 (third_line c) (omega arith) at-third)
      ∙ count_passes c.gateway is.soon (codes "gateway") gateway_times Range Board refl refl is.timed)
      (buses-fine ls (length c.buses) (length c.entries) bus_total-is message_total-is 1 3 c.buses (map entry_line c.entries) is.buses
      is.few refl (omega arith) (omega arith) behind-third behind-fine)))

no_fault : (c : Content) → Parts c → sheet_fault (sheet_text c) ≡ None
unfolding sheet_fault
no_fault c is =
    let ls = lines_of (sheet_text c) in
    cond-false (too_long (sheet_text c)) _ _ (sheet_short c is)
    ∙ ap (first_bad ls 1) (lines-counted c is ls (lines_of-sheet c is))
    ∙ all-fine c is ls (lines_of-sheet c is)

pub written_back : WrittenIsReadBack
written_back c h =
    let is = parts-of c h in
    ap₂ or_content (no_fault c is) (content-back c is (lines_of (sheet_text c)) (lines_of-sheet c is))
