-- What check answers, as a log has it.
use Rattle.std.proofs.Common.{◌≡◌, ℕ, ◌<◌, ◌≤◌, Bool, true, false, not, ltb, List, [], ◌∷◌, length, take, drop, None, Some, Option, sym, refl, ap, ◌∙◌, arith}
use Rattle.std.proofs.lemmas.List.{take_at}
use Rattle.std.proofs.lemmas.Bool.{lt-ltb, le-ltb}
use Rattle.bus.specs.declared.message.Message.{Message}
use Rattle.bus.specs.declared.refusal.Refusal.{Refusal}
use Rattle.bus.specs.declared.refusal.Refusal.TheVariants.{NoMessages, FewRows, WrongRows}
use Rattle.search.specs.Walk.{Walked}
use Rattle.boards.specs.Boards.{Board, bus_count}
use Rattle.boards.specs.Nets.{net_of}
use Rattle.planner.specs.Checks.{orders_in, named, margin_rows, all_met}
use Rattle.planner.specs.Logs.{refused, checked, check, margin_count, Gives}
use Rattle.planner.specs.Refusing.{refused_if, check_fault, is_none}
use Rattle.planner.specs.Spots.{Written}
use Rattle.planner.specs.Standing.{Standing}
use Rattle.planner.specs.declared.rows.Margin.{Margin}
use Rattle.planner.specs.declared.rows.Spot.{Spot}
use Rattle.planner.proofs.FreshBoards.{Unless-none, Unless-some}

pub none-is_empty : (ms : List Message) → length ms ≡ 0 → is_none ms ≡ true
none-is_empty [] e = refl
none-is_empty (m ∷ ms) e = absurd (omega arith)

pub some-are_there : (ms : List Message) → (length ms ≡ 0 → ⊥) → is_none ms ≡ false
some-are_there [] e = absurd (e refl)
some-are_there (m ∷ ms) e = refl

-- what is refused, by what the tests say: there are no messages, few rows are lent, the rows are right
abbrev fault : Bool → Bool → Bool → Option Refusal
fault empty few right = refused_if empty NoMessages (refused_if few FewRows (refused_if (not right) WrongRows None))

pub check_empty : (b : Board) (l : Walked) (rows : List Spot) (lent : ℕ) → is_none b.messages ≡ true →
    Gives (record { board = b; left = l }) (check rows lent) (refused NoMessages) (record { board = b; left = l })
check_empty b l rows lent e =
    Unless-some _ (record { board = b; left = l }) (record { board = b; left = l }) _ NoMessages
    (ap (λ t. fault t (ltb lent (margin_count b)) (named (bus_count b) b.messages rows)) e) refl

module _ (ms : List Message) (lent needed : ℕ) (some : is_none ms ≡ false) where
  few : (right : Bool) → lent < needed → check_fault ms right lent needed ≡ Some FewRows
  few right h = rw (some, lt-ltb lent needed h) refl

  wrong : (right : Bool) → needed ≤ lent → right ≡ false → check_fault ms right lent needed ≡ Some WrongRows
  wrong right h e = rw (some, le-ltb lent needed h, e) refl

  none : (right : Bool) → needed ≤ lent → right ≡ true → check_fault ms right lent needed ≡ None
  none right h e = rw (some, le-ltb lent needed h, e) refl

module _ (b : Board) (l : Walked) (rows : List Spot) (lent count : ℕ) (same : bus_count b ≡ count) (some : is_none b.messages ≡ false) where
  abbrev at : Standing
  at = record { board = b; left = l }

  pub Gives-check_few : lent < margin_count b → Gives at (check rows lent) (refused FewRows) at
  Gives-check_few h = Unless-some _ at at _ FewRows (few b.messages lent (margin_count b) some _ h) refl

  pub Gives-check_wrong : margin_count b ≤ lent → named count b.messages rows ≡ false → Gives at (check rows lent) (refused WrongRows) at
  Gives-check_wrong room e =
      Unless-some _ at at _ WrongRows (wrong b.messages lent (margin_count b) some _ room (ap (λ n. named n b.messages rows) same ∙ e)) refl

  pub Gives-check : margin_count b ≤ lent → named count b.messages rows ≡ true → (meets : Bool) (n : ℕ) (before after : List Margin) →
      meets ≡ all_met (net_of b) (orders_in count rows) → Written (margin_rows b (orders_in count rows)) before after n → Gives at (check rows lent) (checked meets (take n after)) at
  Gives-check room e meets n before after met wrote =
      let os = orders_in count rows in
      Unless-none _ at _ at _ (none b.messages lent (margin_count b) some _ room (ap (λ n. named n b.messages rows) same ∙ e)) (
        ap (λ m. checked m (take n after)) met
            ∙ ap (λ r. checked (all_met (net_of b) os) (take n r)) wrote.rows
            ∙ ap (checked (all_met (net_of b) os)) (take_at (margin_rows b os) (drop n before) n (sym wrote.count))
            ∙ ap (λ n. checked (all_met (net_of b) (orders_in n rows)) (margin_rows b (orders_in n rows))) (sym same),
        refl,
      )
