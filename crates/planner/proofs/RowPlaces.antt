-- The row of one leg, among the rows of a bus, and among those of all buses.
use Rattle.std.proofs.Common.{◌≡◌, ℕ, zero, suc, ◌<◌, ◌≤◌, Bool, true, false, cond, ◌&&◌, ◌||◌, eqb, List, [], ◌∷◌, ◌++◌, map, length, is_some, Some, None, Option, unwrap_or, sym, refl, ap, ◌∙◌, inl, inr, arith}
use Rattle.std.specs.Option.{option_or}
use Rattle.std.proofs.lemmas.Bool.{cond-true, cond-false, and_left, and_from, and_parts, ne_eqb, eq-eqb, eqb-true, cases_Bool, cases_eq}
use Rattle.std.proofs.lemmas.Bool.Decides.{nat_tests}
use Rattle.bus.specs.Numbered.{member}
use Rattle.bus.specs.Rules.{Meaning}
use Rattle.bus.specs.declared.message.Message.{Message}
use Rattle.search.specs.Net.{Leg, Net, same, has}
use Rattle.search.specs.Stored.{orders_of, stored}
use Rattle.boards.specs.Boards.{board_of}
use Rattle.boards.specs.Nets.{leg_at, net_of}
use Rattle.planner.specs.BusOrders.{leg_of_rank, are_legs, order_on, row_below, Sees}
use Rattle.planner.specs.Calls.{rows_in, rows_of, row_at}
use Rattle.planner.specs.Storage.{ranked_of}
use Rattle.planner.specs.declared.ranked.Ranked.{Ranked}
use Rattle.planner.specs.declared.rows.Row.{Row}
use Rattle.planner.specs.declared.seen_legs.Seen.{Seen}
use Rattle.planner.proofs.AllRows.{rows_to, rows_of-shown}
use Rattle.planner.proofs.SeenLegs.{rows_here, rows_in-seen}
use Rattle.planner.proofs.StoredOrders.{stored-has}

option_or-none : (a : Option Row) → option_or a None ≡ a
option_or-none None = refl
option_or-none (Some a) = refl

module _ (bus n : ℕ) where
  row_at-append : (a b : List Row) → row_at bus n (a ++ b) ≡ option_or (row_at bus n a) (row_at bus n b)
  row_at-append [] b = refl
  row_at-append (r ∷ a) b = grind (arith, row_at-append a b)

  row_at-front : (a b : List Row) (r : Row) → row_at bus n a ≡ Some r → row_at bus n (a ++ b) ≡ Some r
  row_at-front a b r e = row_at-append a b ∙ ap (λ o. option_or o (row_at bus n b)) e

  row_at-past : (a b : List Row) → row_at bus n a ≡ None → row_at bus n (a ++ b) ≡ row_at bus n b
  row_at-past a b e = row_at-append a b ∙ ap (λ o. option_or o (row_at bus n b)) e

  row_at-before : (a b : List Row) → row_at bus n b ≡ None → row_at bus n (a ++ b) ≡ row_at bus n a
  row_at-before a b e = row_at-append a b ∙ ap (option_or (row_at bus n a)) e ∙ option_or-none (row_at bus n a)

  -- ---------------------------------------------------------------- the rows of a bus
  module _ (net : Net) where
    row_at-elsewhere : (k : ℕ) (o : List Leg) → (k ≡ bus → ⊥) → row_at bus n (rows_in net k o) ≡ None
    row_at-elsewhere k [] other = refl
    row_at-elsewhere k (x ∷ o) other =
        row_at-past (rows_in net k o) _ (row_at-elsewhere k o other) ∙ cond-false _ _ _ (and_left _ _ (ne_eqb k bus other))

    -- a row that the top of an order shows is shown by all of it
    row_at-from_top : (a b : List Ranked) (r : Row) → row_at bus n (rows_in net bus (order_on b bus)) ≡ Some r →
        row_at bus n (rows_in net bus (order_on (a ++ b) bus)) ≡ Some r
    row_at-from_top [] b r h = h
    row_at-from_top (x ∷ a) b r h =
        let rest = row_at-from_top a b r h in
        let o = order_on (a ++ b) bus in
        elim (cases_Bool (eqb x.bus bus)) [
          | inl e ↦ ap (λ l. row_at bus n (rows_in net bus l)) (cond-true _ (leg_at bus x.message ∷ o) o e) ∙ row_at-front (rows_in net bus o) _ r rest
          | inr e ↦ ap (λ l. row_at bus n (rows_in net bus l)) (cond-false _ (leg_at bus x.message ∷ o) o e) ∙ rest
        ]

    -- one turn of a loop that looks for a row: the leg is another
    pub row_at-not_yet : (t : Bool) (m : ℕ) (o o' : List Leg) → false ≡ (t && eqb m n) → o' ≡ cond t (leg_at bus m ∷ o) o →
        row_at bus n (rows_in net bus o) ≡ None → row_at bus n (rows_in net bus o') ≡ None
    row_at-not_yet true m o o' other next none =
        ap (λ l. row_at bus n (rows_in net bus l)) next
        ∙ row_at-past (rows_in net bus o) _ none
        ∙ cond-false _ _ _ (ap (λ u. eqb bus bus && u) (sym other) ∙ ap (λ u. u && false) (eq-eqb bus bus refl))
    row_at-not_yet false m o o' other next none = ap (λ l. row_at bus n (rows_in net bus l)) next ∙ none

    -- ---------------------------------------------------------------- the rows of the first buses
    module _ (rs : List Ranked) where
      row_at-rows_to_none : (k : ℕ) → k < bus → row_at bus n (rows_to net rs k) ≡ None
      row_at-rows_to_none zero h = refl
      row_at-rows_to_none (suc k) h =
          row_at-past (rows_to net rs k) _ (row_at-rows_to_none k (omega arith)) ∙ row_at-elsewhere (suc k) (order_on rs (suc k)) (λ e. omega arith)

      row_at-rows_to : (k : ℕ) → 1 ≤ bus → bus ≤ k → row_at bus n (rows_to net rs k) ≡ row_at bus n (rows_in net bus (order_on rs bus))
      row_at-rows_to zero low high = absurd (omega arith)
      row_at-rows_to (suc k) low high =
          elim (cases_eq (suc k) bus) [
            | inl e ↦
                row_at-past (rows_to net rs k) _ (row_at-rows_to_none k (omega arith)) ∙ ap (λ j. row_at bus n (rows_in net j (order_on rs j))) e
            | inr d ↦
                row_at-before (rows_to net rs k) _ (row_at-elsewhere (suc k) (order_on rs (suc k)) d) ∙ row_at-rows_to k low (lower d)
          ]
        where
          lower : (suc k ≡ bus → ⊥) → bus ≤ k
          lower d = omega arith

  -- the leg itself
  row_at-here : (rules : List Meaning) (gateway : ℕ) (ms : List Message) (m : ℕ) (o o' : List Leg) (s : Seen) (t : Bool) → Sees bus o s →
      true ≡ (t && eqb m n) → o' ≡ cond t (leg_at bus m ∷ o) o → row_at bus n (rows_here rules gateway ms bus o) ≡ None →
      row_at bus n (rows_here rules gateway ms bus o') ≡ Some (row_below rules ms bus n s.count (member s.above.bits))
  row_at-here rules gateway ms m o o' s t sees is next none =
      let both = and_parts t (eqb m n) (sym is) in
      let here = rows_here rules gateway ms bus in
      let e : m ≡ n = eqb-true m n both.1 in
      ap (λ l. row_at bus n (here l)) (next ∙ cond-true t _ _ both.0 ∙ ap (λ k. leg_at bus k ∷ o) e)
      ∙ ap (row_at bus n) (rows_in-seen rules gateway ms bus n o s sees)
      ∙ row_at-past (here o) _ none
      ∙ cond-true _ _ _ (and_from _ _ (eq-eqb bus bus refl) (eq-eqb n n refl))

-- ---------------------------------------------------------------- whether a leg has a row
is_some-option_or : (a b : Option Row) → is_some (option_or a b) ≡ (is_some a || is_some b)
is_some-option_or None b = refl
is_some-option_or (Some r) b = refl

is_some-cond : (t : Bool) (r : Row) → is_some (cond t (Some r) None) ≡ t
is_some-cond true r = refl
is_some-cond false r = refl

is_some-row_at : (bus n : ℕ) (net : Net) (rs : List Ranked) → is_some (row_at bus n (rows_in net bus (order_on rs bus))) ≡ has (leg_at bus n) (map leg_of_rank rs)
unfolding same
is_some-row_at bus n net [] = refl
is_some-row_at bus n net (r ∷ rs) =
    let o = order_on rs bus in
    let m = r.message in
    let rest = is_some-row_at bus n net rs in
    let row : Row = record { bus = bus; rank = suc (length o); message = m; delay = unwrap_or (net.delay (leg_at bus m) o) 0 } in
    let this = row_at-append bus n (rows_in net bus o) (row ∷ []) in
    let last = is_some-cond (eqb bus bus && eqb m n) row in
    let either = is_some-option_or (row_at bus n (rows_in net bus o)) (row_at bus n (row ∷ [])) in
    elim (cases_Bool (eqb r.bus bus)) [
      | inl e ↦
          ap (λ l. is_some (row_at bus n (rows_in net bus l))) (cond-true _ (leg_at bus m ∷ o) o e)
          ∙ ap is_some this
          ∙ either
          ∙ grind (arith, nat_tests, rest, last, e)
      | inr e ↦
          ap (λ l. is_some (row_at bus n (rows_in net bus l))) (cond-false _ (leg_at bus m ∷ o) o e) ∙ rest ∙ grind (arith, nat_tests, e)
    ]

-- ---------------------------------------------------------------- among all the rows
module _ (ms : List Message) (rs : List Ranked) (legs : are_legs ms rs ≡ true) (rules : List Meaning) (gateway bus n : ℕ) (low : 1 ≤ bus)
    (high : bus ≤ length rules) where
  abbrev net : Net
  net = net_of (board_of rules gateway ms)

  abbrev here : List Leg → Option Row
  here o = row_at bus n (rows_in net bus o)

  abbrev shown : Option Row
  shown = row_at bus n (rows_of net (orders_of net (ranked_of rs)))

  row_at-shown : shown ≡ here (order_on rs bus)
  row_at-shown = ap (row_at bus n) (rows_of-shown ms rs legs rules gateway) ∙ row_at-rows_to bus n net rs (length rules) low high

  -- the search ends at the leg
  pub row_at-found : (left : List Ranked) (r : Ranked) (gone : List Ranked) (s : Seen) (row : Row) → left ++ (r ∷ gone) ≡ rs → Sees bus (order_on gone bus) s →
      here (order_on gone bus) ≡ None → true ≡ (eqb r.bus bus && eqb r.message n) → row ≡ row_below rules ms bus n s.count (member s.above.bits) →
      Some row ≡ shown
  row_at-found left r gone s row all sees none is here' =
      ap Some here'
      ∙ sym
      (row_at-shown
      ∙ ap (λ l. here (order_on l bus)) (sym all)
      ∙ row_at-from_top bus n net left (r ∷ gone) _ (row_at-here bus n rules gateway ms r.message (order_on gone bus) (order_on (r ∷ gone) bus) s (eqb r.bus bus) sees is refl none))

  -- or past the first
  pub row_at-missing : (gone : List Ranked) → gone ≡ rs → here (order_on gone bus) ≡ None → None ≡ shown
  row_at-missing gone all none = sym none ∙ ap (λ l. here (order_on l bus)) all ∙ sym row_at-shown

  -- a ranked leg has a row
  pub row_at-ranked : is_some (stored (ranked_of rs) (leg_at bus n)) ≡ true → is_some shown ≡ true
  row_at-ranked h = ap is_some row_at-shown ∙ is_some-row_at bus n net rs ∙ sym (stored-has rs (leg_at bus n)) ∙ h
