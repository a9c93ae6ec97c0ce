-- What list and look answer, as a log has it.
use Rattle.std.proofs.Common.{◌≡◌, ℕ, ◌<◌, ◌≤◌, Bool, true, false, not, ◌&&◌, leb, List, ◌++◌, length, take, drop, is_some, Some, None, sym, refl, ap, ◌∙◌, subst}
use Rattle.std.proofs.lemmas.List.{take_at}
use Rattle.std.proofs.lemmas.Bool.{and_parts, not-true, not-false, leb-true, lt-ltb, le-ltb, false≢true}
use Rattle.bus.specs.Range.{inside, buses, numbers}
use Rattle.bus.specs.declared.message.Message.{Message}
use Rattle.bus.specs.declared.refusal.Refusal.{Refusal}
use Rattle.bus.specs.declared.refusal.Refusal.TheVariants.{Range, NoBus, NoLeg, NotFound, FewRows}
use Rattle.search.specs.Net.{Leg}
use Rattle.search.specs.Stored as walk
use Rattle.boards.specs.Boards.{Board, bus_count, message_of, Sound}
use Rattle.boards.specs.Nets.{leg_from, net_of}
use Rattle.planner.specs.Calls.{rows_of, row_at}
use Rattle.planner.specs.Logs.{refused, looked, listed, look, list, row_count, Gives}
use Rattle.planner.specs.Refusing.{refused_if, is_none, look_fault, list_fault}
use Rattle.planner.specs.Stages.{stage_of, is_complete}
use Rattle.planner.specs.Standing.{Standing, found_orders}
use Rattle.planner.specs.declared.ranked.Ranked.{Ranked}
use Rattle.planner.specs.declared.rows.Row.{Row}
use Rattle.planner.specs.declared.stage.Stage.{Stage}
use Rattle.planner.specs.declared.stage.Stage.TheVariants.{Start, Testing, Complete, Exhausted}
use Rattle.planner.specs.Storage.{ranked_of}
use Rattle.planner.proofs.FoundBoards.{found_orders-without, found_orders-testing, found_orders-at_start, found_orders-exhausted, found_orders-complete}
use Rattle.planner.proofs.FreshBoards.{Unless-none, Unless-some}
use Rattle.planner.proofs.LogLaw.{refused_if-none}

pub is_complete-means : (s : Stage) → is_complete s ≡ true → s ≡ Complete
is_complete-means Start e = absurd (false≢true e)
is_complete-means (Testing x) e = absurd (false≢true e)
is_complete-means Complete e = refl
is_complete-means Exhausted e = absurd (false≢true e)

-- what is tested of a look before it matters whether the walk has ended
pub record LookTests (count : ℕ) (ms : List Message) (bus n : ℕ) : Type 0 where
  pub low : 1 ≤ bus
  pub high : bus ≤ count
  pub leg : is_some (leg_from bus (message_of ms n)) ≡ true

-- what an accepted look has tested: with that, that the walk has ended
pub look_tests : (count : ℕ) (ms : List Message) (found : Bool) (bus n : ℕ) → look_fault count ms found bus n ≡ None → LookTests count ms bus n × (found ≡ true)
look_tests count ms found bus n e =
    let range = refused_if-none (not (inside buses bus && inside numbers n)) Range _ e in
    let board = refused_if-none (not (leb bus count)) NoBus _ range.1 in
    let leg = refused_if-none (not (is_some (leg_from bus (message_of ms n)))) NoLeg _ board.1 in
    let end = refused_if-none (not found) NotFound _ leg.1 in
    let bounds = and_parts (inside buses bus) (inside numbers n) (not-false _ range.0) in (
      record {
        low = leb-true 1 bus (and_parts (leb 1 bus) (leb bus 8) bounds.0).0;
        high = leb-true bus count (not-false _ board.0);
        leg = not-false _ leg.0;
      },
      not-false _ end.0,
    )

pub look_fault-tests : (count : ℕ) (ms : List Message) (bus n : ℕ) → look_fault count ms true bus n ≡ None → LookTests count ms bus n
look_fault-tests count ms bus n e = (look_tests count ms true bus n e).0

look_fault-unfound : (count : ℕ) (ms : List Message) (bus n : ℕ) → look_fault count ms true bus n ≡ None → look_fault count ms false bus n ≡ Some NotFound
look_fault-unfound count ms bus n e =
    let range = refused_if-none (not (inside buses bus && inside numbers n)) Range _ e in
    let board = refused_if-none (not (leb bus count)) NoBus _ range.1 in
    let leg = refused_if-none (not (is_some (leg_from bus (message_of ms n)))) NoLeg _ board.1 in
    rw (range.0, board.0, leg.0) refl

module _ (b : Board) (sound : Sound b) (rs : List Ranked) where
  abbrev at : Stage → Standing
  at s = record { board = b; left = walk.left (net_of b) (stage_of (net_of b) rs s) }

  -- not found where there are no messages, or the walk is not complete
  found_orders-not_found : (s : Stage) → (not (is_none b.messages) && is_complete s) ≡ false → found_orders (at s) ≡ None
  found_orders-not_found s e = go (is_none b.messages) refl s e
    where
      go : (t : Bool) → is_none b.messages ≡ t → (s : Stage) → (not t && is_complete s) ≡ false → found_orders (at s) ≡ None
      go true t s e = found_orders-without b (stage_of (net_of b) rs s) t
      go false t Start e = found_orders-at_start b sound t
      go false t (Testing x) e = found_orders-testing b (ranked_of rs) _ t
      go false t Complete e = absurd (false≢true (sym e))
      go false t Exhausted e = found_orders-exhausted b t

  pub found_orders-found : (s : Stage) → (not (is_none b.messages) && is_complete s) ≡ true → walk.placed_at (net_of b) (walk.complete (ranked_of rs)) ≡ true →
      found_orders (at s) ≡ Some (walk.orders_of (net_of b) (ranked_of rs))
  found_orders-found s e placed =
      let both = and_parts (not (is_none b.messages)) (is_complete s) e in
      ap (λ x. found_orders (at x)) (is_complete-means s both.1) ∙ found_orders-complete b sound (not-true _ both.0) (ranked_of rs) placed

  pub Gives-list_not_found : (s : Stage) (lent : ℕ) → (not (is_none b.messages) && is_complete s) ≡ false → Gives (at s) (list lent) (refused NotFound) (at s)
  Gives-list_not_found s lent e =
      Unless-some (list_fault (is_some (found_orders (at s))) lent (row_count b (found_orders (at s)))) (at s) (at s) _ NotFound
      (ap (λ o. list_fault (is_some o) lent (row_count b o)) (found_orders-not_found s e)) refl

  module _ (s : Stage) (os : List (List Leg)) (found : found_orders (at s) ≡ Some os) where
    pub Gives-list_few : (lent : ℕ) → lent < length (rows_of (net_of b) os) → Gives (at s) (list lent) (refused FewRows) (at s)
    Gives-list_few lent few =
        Unless-some (list_fault (is_some (found_orders (at s))) lent (row_count b (found_orders (at s)))) (at s) (at s) _ FewRows
        (ap (λ o. list_fault (is_some o) lent (row_count b o)) found ∙ ap (λ t. refused_if t FewRows None) (lt-ltb _ _ few)) refl

    pub Gives-list : (lent count : ℕ) (before after : List Row) → length (rows_of (net_of b) os) ≤ lent → count ≡ length (rows_of (net_of b) os) →
        after ≡ rows_of (net_of b) os ++ drop count before → Gives (at s) (list lent) (listed (take count after)) (at s)
    Gives-list lent count before after room is wrote =
        Unless-none (list_fault (is_some (found_orders (at s))) lent (row_count b (found_orders (at s)))) (at s) _ (at s) _
        (ap (λ o. list_fault (is_some o) lent (row_count b o)) found ∙ ap (λ t. refused_if t FewRows None) (le-ltb _ _ room))
        (os, found, ap (λ l. listed (take count l)) wrote ∙ ap listed (take_at (rows_of (net_of b) os) _ count (sym is)), refl)

    pub Gives-look : (bus n : ℕ) (r : Row) → look_fault (bus_count b) b.messages true bus n ≡ None → row_at bus n (rows_of (net_of b) os) ≡ Some r →
        Gives (at s) (look bus n) (looked r.rank r.delay) (at s)
    Gives-look bus n r none row =
        Unless-none (look_fault (bus_count b) b.messages (is_some (found_orders (at s))) bus n) (at s) _ (at s) _
        (ap (λ o. look_fault (bus_count b) b.messages (is_some o) bus n) found ∙ none)
        (os, found, r, row, refl, refl)

  -- a look at a leg that has no place yet
  pub Gives-look_not_found : (s : Stage) (bus n : ℕ) → (not (is_none b.messages) && is_complete s) ≡ false →
      look_fault (bus_count b) b.messages true bus n ≡ None → Gives (at s) (look bus n) (refused NotFound) (at s)
  Gives-look_not_found s bus n e none =
      Unless-some (look_fault (bus_count b) b.messages (is_some (found_orders (at s))) bus n) (at s) (at s) _ NotFound
      (ap (λ o. look_fault (bus_count b) b.messages (is_some o) bus n) (found_orders-not_found s e) ∙ look_fault-unfound (bus_count b) b.messages bus n none) refl

  -- a look that is refused, where it is known whether the walk has ended with found
  pub look_refused : (s : Stage) (known : Bool) (bus n : ℕ) (f : Refusal) → is_some (found_orders (at s)) ≡ known →
      look_fault (bus_count b) b.messages known bus n ≡ Some f → Gives (at s) (look bus n) (refused f) (at s)
  look_refused s known bus n f e some =
      Unless-some (look_fault (bus_count b) b.messages (is_some (found_orders (at s))) bus n) (at s) (at s) _ f
      (ap (λ k. look_fault (bus_count b) b.messages k bus n) e ∙ some) refl

  pub known-found : (s : Stage) → walk.placed_at (net_of b) (stage_of (net_of b) rs s) ≡ true →
      is_some (found_orders (at s)) ≡ (not (is_none b.messages) && is_complete s)
  known-found s placed = go (not (is_none b.messages) && is_complete s) refl
    where
      go : (t : Bool) → (not (is_none b.messages) && is_complete s) ≡ t → is_some (found_orders (at s)) ≡ t
      go true e =
          let done = is_complete-means s (and_parts (not (is_none b.messages)) (is_complete s) e).1 in
          ap is_some (found_orders-found s e (subst (λ x. walk.placed_at (net_of b) (stage_of (net_of b) rs x) ≡ true) done placed))
      go false e = ap is_some (found_orders-not_found s e)
