-- The tests of every line stand in order.
use Rattle.std.proofs.Common.{◌≡◌, ℕ, ◌-◌, Bool, true, false, cond, eqb, ltb, leb, List, [], ◌∷◌, ◌++◌, length, Some, None, codes, Option, refl}
use Rattle.std.proofs.lemmas.Bool.{cond_both}
use Rattle.bus.specs.Range.{inside}
use Rattle.bus.specs.declared.entry.Entry.{Entry}
use Rattle.bus.specs.declared.refusal.Refusal.TheVariants.{Form, Count, Range}
use Rattle.grammar.specs.Content.{bus_total, first_message, last_wanted, earlier_than}
use Rattle.grammar.specs.Faults.{tests_of, wanted_tests, unwanted_tests, tests_at}
use Rattle.grammar.specs.Lines.{Test, must, word_tests, form_tests, all_pass, line_tests, count_forms, count_in, bus_totals, message_totals, gateway_times, bus_forms, bus_line_in, bus_values, message_forms, entry_in, entry_values, buses_tests, messages_tests, gateway_tests, bus_tests, message_tests}
use Rattle.grammar.specs.Text.{TextLine, words, line_at}
use Rattle.grammar.specs.declared.layer.Layer.TheVariants.{Word, Board}
use Rattle.grammar.proofs.Tests.{ordered}

-- the tests of the line as a whole, and others behind them
abbrev behind_whole : List Test → List Test
behind_whole ts = must true Form 0 Word ∷ must true Form 0 Word ∷ ts

abbrev Ordered : List Test → Type 0
Ordered ts = ordered ts ≡ true

-- whichever parts of a line are looked at
module _ (forms : List Bool) (values : List Test) (whole : Ordered (behind_whole (word_tests 1 forms ++ values)))
    (form_only : Ordered (behind_whole (word_tests 1 forms ++ []))) (values_only : Ordered (behind_whole values)) where
  ordered-parts : (counted kept : Bool) → Ordered (behind_whole (cond counted (word_tests 1 forms) [] ++ cond kept values []))
  ordered-parts true true = whole
  ordered-parts true false = form_only
  ordered-parts false true = values_only
  ordered-parts false false = refl

  ordered-line : (l : TextLine) → Ordered (line_tests forms values l)
  ordered-line l = ordered-parts (eqb (length (words l.text)) (length forms)) (all_pass (form_tests forms l))

ordered-buses : (l : TextLine) → Ordered (buses_tests l)
ordered-buses l =
    let ws = words l.text in
    ordered-line (count_forms (codes "buses") ws) (must (inside bus_totals (count_in ws)) Count 2 Word ∷ []) refl refl refl l

ordered-messages : (l : TextLine) → Ordered (messages_tests l)
ordered-messages l =
    let ws = words l.text in
    ordered-line (count_forms (codes "messages") ws) (must (inside message_totals (count_in ws)) Count 2 Word ∷ []) refl refl refl l

ordered-gateway : (l : TextLine) → Ordered (gateway_tests l)
ordered-gateway l =
    let ws = words l.text in
    ordered-line (count_forms (codes "gateway") ws) (must (inside gateway_times (count_in ws)) Range 2 Board ∷ []) refl refl refl l

ordered-bus : (k : ℕ) (l : TextLine) → Ordered (bus_tests k l)
ordered-bus k l = let ws = words l.text in ordered-line (bus_forms k ws) (bus_values (bus_line_in ws)) refl refl refl l

ordered-message : (count : ℕ) (earlier : List Entry) (l : TextLine) → Ordered (message_tests count earlier l)
ordered-message count earlier l =
    let ws = words l.text in
    ordered-line (message_forms ws) (entry_values count earlier (entry_in ws)) refl refl refl l

ordered_of : (ls : List TextLine) (i : ℕ) (l : TextLine) → Ordered (tests_of ls i l)
ordered_of ls i l =
    cond_both (eqb i 1) _ _ Ordered (λ _. ordered-buses l)
    (λ _. cond_both (eqb i 2) _ _ Ordered (λ _. ordered-messages l)
    (λ _. cond_both (eqb i 3) _ _ Ordered (λ _. ordered-gateway l)
    (λ _. cond_both (ltb i (first_message ls)) _ _ Ordered (λ _. ordered-bus (i - 3) l)
    (λ _. ordered-message (bus_total ls) (earlier_than ls i) l))))

ordered-wanted : (ls : List TextLine) (i : ℕ) (o : Option TextLine) → Ordered (wanted_tests ls i o)
ordered-wanted ls i None = refl
ordered-wanted ls i (Some l) = ordered_of ls i l

ordered-unwanted : (o : Option TextLine) → Ordered (unwanted_tests o)
ordered-unwanted None = refl
ordered-unwanted (Some l) = refl

pub ordered-tests : (ls : List TextLine) (i : ℕ) → ordered (tests_at ls i) ≡ true
unfolding tests_at
ordered-tests ls i =
    let o = line_at ls i in
    cond_both (leb i (last_wanted ls)) _ _ Ordered (λ _. ordered-wanted ls i o) (λ _. ordered-unwanted o)
