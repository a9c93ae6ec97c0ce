-- Lines that are those of buses and messages: what is read from them, and that none has a fault.
use Rattle.std.proofs.Common.{◌≡◌, ℕ, suc, ◌+◌, ◌-◌, ◌<◌, ◌≤◌, true, cond, ltb, leb, List, [], ◌∷◌, ◌++◌, map, length, drop, Some, None, codes, refl, ap, ◌∙◌, ap₂, arith}
use Rattle.std.proofs.lemmas.List.{map_push}
use Rattle.std.proofs.lemmas.Bool.{and_parts, cond-true, cond-false, le-leb, lt-ltb, le-ltb, ne_eqb}
use Rattle.bus.specs.declared.entry.Entry.{Entry}
use Rattle.std.specs.List.{list_all}
use Rattle.boards.specs.Nets.{numbers_from}
use Rattle.grammar.specs.Content.{words_of, bus_total, message_total, first_message, last_wanted, entry_at, earlier_than}
use Rattle.grammar.specs.Faults.{tests_of, wanted_tests, tests_at, reported, on_line, first_bad}
use Rattle.grammar.specs.Lines.{all_pass, bus_line_in, bus_tests, entry_in, entry_values, message_tests}
use Rattle.grammar.specs.Text.{TextLine, line_at}
use Rattle.grammar.specs.Written.{lawful_bus, lawful_entries}
use Rattle.grammar.specs.declared.bus_line.BusLine.{BusLine}
use Rattle.grammar.proofs.WrittenLines.{bus_rest, bus_line, bus_back, bus_clear, bus_passes, entry_rest, entry_line, entry_back, entry_clear, entry_passes}
use Rattle.grammar.proofs.WrittenPlaces.{line-at, drop_next, words-at, numbers-push}
use Rattle.grammar.proofs.WrittenTests.{Faultless}

-- the lines of the buses from bus k on
abbrev pub bus_lines : ℕ → List BusLine → List TextLine
bus_lines k [] = []
bus_lines k (b ∷ bs) = bus_line k b ∷ bus_lines (suc k) bs

-- among n lines from line i on there is no fault
abbrev pub Fine : List TextLine → ℕ → ℕ → Type 0
Fine ls i n = first_bad ls i n ≡ None

-- ---------------------------------------------------------------- what is read
module _ (ls : List TextLine) where
  pub buses-read : (k n : ℕ) (bs : List BusLine) (rest : List TextLine) → list_all lawful_bus bs ≡ true → k + length bs ≤ 9 →
      drop n ls ≡ bus_lines k bs ++ rest → map (λ i. bus_line_in (words_of ls i)) (numbers_from (suc n) (length bs)) ≡ bs
  buses-read k n [] rest h few at = refl
  buses-read k n (b ∷ bs) rest h few at =
      let both = and_parts (lawful_bus b) (list_all lawful_bus bs) h in
      let here = line-at ls n (bus_line k b) (bus_lines (suc k) bs ++ rest) at in
      let said = words-at ls (suc n) (codes "bus") (bus_rest k b) (bus_clear k b (omega arith) both.0) here in
      ap₂ ◌∷◌ (ap bus_line_in said ∙ bus_back k b (omega arith) both.0)
      (buses-read (suc k) (suc n) bs rest both.1 (omega arith) (drop_next ls n (bus_line k b) (bus_lines (suc k) bs ++ rest) at))

  entry_read : (count n : ℕ) (earlier : List Entry) (e : Entry) → count ≤ 8 → all_pass (entry_values count earlier e) ≡ true →
      line_at ls n ≡ Some (entry_line e) → entry_at ls n ≡ e
  entry_read count n earlier e few h here =
      ap entry_in (words-at ls n (codes "msg") (entry_rest e) (entry_clear count earlier e few h) here) ∙ entry_back count earlier e few h

  pub entries_read : (count n : ℕ) (earlier es : List Entry) → count ≤ 8 → lawful_entries count earlier es ≡ true →
      drop n ls ≡ map entry_line es → map (entry_at ls) (numbers_from (suc n) (length es)) ≡ es
  entries_read count n earlier [] few h at = refl
  entries_read count n earlier (e ∷ es) few h at =
      let both = and_parts (all_pass (entry_values count earlier e)) (lawful_entries count (earlier ++ e ∷ []) es) h in
      let here = line-at ls n (entry_line e) (map entry_line es) at in
      ap₂ ◌∷◌ (entry_read count (suc n) earlier e few both.0 here)
      (entries_read count (suc n) (earlier ++ e ∷ []) es few both.1 (drop_next ls n (entry_line e) (map entry_line es) at))

-- ---------------------------------------------------------------- what is tested
pub fine-step : (ls : List TextLine) (i n : ℕ) → Faultless (tests_at ls i) → Fine ls (suc i) n → Fine ls i (suc n)
fine-step ls i n here rest = ap (λ r. on_line i r (first_bad ls (suc i) n)) here ∙ rest

-- the contents announce so many buses and messages
module _ (ls : List TextLine) (count messages : ℕ) (announced : bus_total ls ≡ count) (also : message_total ls ≡ messages) where
  pub tests-wanted : (i : ℕ) (l : TextLine) → i ≤ 3 + count + messages → line_at ls i ≡ Some l → tests_at ls i ≡ tests_of ls i l
  unfolding tests_at
  tests-wanted i l within here =
      cond-true (leb i (last_wanted ls)) _ _ (le-leb i (last_wanted ls) (omega arith)) ∙ ap (wanted_tests ls i) here

  behind-contents : (i : ℕ) (l : TextLine) → 4 ≤ i →
      tests_of ls i l ≡ cond (ltb i (first_message ls)) (bus_tests (i - 3) l) (message_tests (bus_total ls) (earlier_than ls i) l)
  behind-contents i l high = rw (ne_eqb i 1 (omega arith), ne_eqb i 2 (omega arith), ne_eqb i 3 (omega arith)) refl

  tests_at-bus : (k n : ℕ) (l : TextLine) → n ≡ 2 + k → 1 ≤ k → k ≤ count → line_at ls (suc n) ≡ Some l → tests_at ls (suc n) ≡ bus_tests k l
  tests_at-bus k n l at some within here =
      tests-wanted (suc n) l (omega arith) here
      ∙ behind-contents (suc n) l (omega arith)
      ∙ cond-true (ltb (suc n) (first_message ls)) _ _ (lt-ltb (suc n) (first_message ls) (omega arith))
      ∙ ap (λ j. bus_tests j l) (omega arith)

  tests_at-message : (n : ℕ) (earlier : List Entry) (l : TextLine) → 3 + count ≤ n → n < 3 + count + messages → earlier_than ls (suc n) ≡ earlier →
      line_at ls (suc n) ≡ Some l → tests_at ls (suc n) ≡ message_tests count earlier l
  tests_at-message n earlier l past within before here =
      tests-wanted (suc n) l (omega arith) here
      ∙ behind-contents (suc n) l (omega arith)
      ∙ cond-false (ltb (suc n) (first_message ls)) _ _ (le-ltb (suc n) (first_message ls) (omega arith))
      ∙ ap₂ (λ m es. message_tests m es l) announced before

  -- the lines of the buses from bus k on, and then lines without fault
  pub buses-fine : (k n : ℕ) (bs : List BusLine) (rest : List TextLine) → list_all lawful_bus bs ≡ true → count ≤ 8 → n ≡ 2 + k → 1 ≤ k →
      k + length bs ≡ suc count → drop n ls ≡ bus_lines k bs ++ rest →
      ((m : ℕ) → m ≡ 3 + count → drop m ls ≡ rest → Fine ls (suc m) (length rest)) → Fine ls (suc n) (length (bus_lines k bs ++ rest))
  buses-fine k n [] rest h few at some up left then = then n (omega arith) left
  buses-fine k n (b ∷ bs) rest h few at some up left then =
      let both = and_parts (lawful_bus b) (list_all lawful_bus bs) h in
      let here = line-at ls n (bus_line k b) (bus_lines (suc k) bs ++ rest) left in
      fine-step ls (suc n) _
      (ap reported (tests_at-bus k n (bus_line k b) at some (omega arith) here) ∙ bus_passes k b (omega arith) both.0)
      (buses-fine (suc k) (suc n) bs rest both.1 few (omega arith) (omega arith) (omega arith)
      (drop_next ls n (bus_line k b) (bus_lines (suc k) bs ++ rest) left) then)

  earlier_more : (n : ℕ) → 3 + count ≤ n → earlier_than ls (suc (suc n)) ≡ earlier_than ls (suc n) ++ entry_at ls (suc n) ∷ []
  earlier_more n past =
      let d : ℕ = suc n - first_message ls in
      let one_more : suc (suc n) - first_message ls ≡ suc d = omega arith in
      let last : first_message ls + d ≡ suc n = omega arith in
      ap (λ m. map (entry_at ls) (numbers_from (first_message ls) m)) one_more
      ∙ ap (map (entry_at ls)) (numbers-push (first_message ls) d)
      ∙ map_push (entry_at ls) (numbers_from (first_message ls) d) (first_message ls + d)
      ∙ ap (λ i. earlier_than ls (suc n) ++ entry_at ls i ∷ []) last

  -- the lines of the messages behind the earlier ones
  pub entries_fine : (n : ℕ) (earlier es : List Entry) → count ≤ 8 → lawful_entries count earlier es ≡ true → 3 + count ≤ n →
      n + length es ≡ 3 + count + messages → earlier_than ls (suc n) ≡ earlier → drop n ls ≡ map entry_line es →
      Fine ls (suc n) (length (map entry_line es))
  entries_fine n earlier [] few h past up before left = refl
  entries_fine n earlier (e ∷ es) few h past up before left =
      let both = and_parts (all_pass (entry_values count earlier e)) (lawful_entries count (earlier ++ e ∷ []) es) h in
      let here = line-at ls n (entry_line e) (map entry_line es) left in
      let more = earlier_more n past ∙ ap₂ (λ fs f. fs ++ f ∷ []) before (entry_read ls count (suc n) earlier e few both.0 here) in
      fine-step ls (suc n) _
      (ap reported (tests_at-message n earlier (entry_line e) past (omega arith) before here) ∙ entry_passes count earlier e few both.0)
      (entries_fine (suc n) (earlier ++ e ∷ []) es few both.1 (omega arith) (omega arith) more
      (drop_next ls n (entry_line e) (map entry_line es) left))
