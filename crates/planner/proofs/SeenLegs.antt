-- The legs of a bus that are seen so far, from the highest rank down: one more, and what is known of the row below them.
use Rattle.std.proofs.Common.{◌≡◌, ℕ, zero, suc, ◌+◌, ◌-◌, ◌<◌, ◌≤◌, Bool, true, false, cond, ◌&&◌, ◌||◌, eqb, List, [], ◌∷◌, ◌++◌, map, reverse, length, get_or, take, drop, set, unwrap_or, Bor, sym, refl, ap, ◌∙◌, subst, arith}
use Rattle.std.proofs.lemmas.List.{append_assoc, drop_more, drop_all, length_push, map-append, nil_from_length, reverse-append}
use Rattle.std.proofs.lemmas.Bool.{eq-eqb, cond-true}
use Rattle.bus.specs.Legs.{legs_on}
use Rattle.bus.specs.Numbered.{member}
use Rattle.bus.specs.Range.{inside, numbers}
use Rattle.bus.specs.Rules.{Meaning}
use Rattle.bus.specs.declared.message.Message.{Message}
use Rattle.search.specs.Net.{Leg, Net, same, has}
use Rattle.boards.specs.Boards.{board_of, rule_at}
use Rattle.boards.specs.Nets.{leg_at, net_of}
use Rattle.planner.specs.BusOrders.{order_on, row_below, Sees}
use Rattle.planner.specs.Calls.{rows_in}
use Rattle.planner.specs.declared.ranked.Ranked.{Ranked}
use Rattle.planner.specs.declared.rows.Row.{Row}
use Rattle.planner.specs.declared.seen_legs.Seen.{Seen}
use Rattle.planner.proofs.Written.{written, written-push}

-- ---------------------------------------------------------------- one leg more is seen
pub Sees-more : (bus m : ℕ) (o : List Leg) (s r : Seen) → inside numbers m ≡ true → r.count ≡ s.count + 1 →
    ((k : ℕ) → member r.above.bits k ≡ (inside numbers m && eqb k m || member s.above.bits k)) → Sees bus o s → Sees bus (leg_at bus m ∷ o) r
unfolding same
Sees-more bus m o s r within count above h =
    let here : eqb bus bus ≡ true = eq-eqb bus bus refl in
    record {
      count = omega (arith, h.count);
      above = λ k. above k ∙ ap (λ t. t && eqb k m || member s.above.bits k) within ∙ ap (λ t. eqb k m || t) (h.above k) ∙ sym (ap (λ t. t && eqb k m || has (leg_at bus k) o) here);
    }

-- a test decides which legs were seen
pub Sees-where : (t u : Bool) (bus : ℕ) (x o : List Leg) (s : Seen) → t ≡ u → Sees bus (cond u x o) s → Sees bus (cond t x o) s
Sees-where t u bus x o s e h = subst (λ v. Sees bus (cond v x o) s) (sym e) h

-- ---------------------------------------------------------------- a loop that goes over the ranked legs from the end
-- the legs that came so far, as they are stored
abbrev pub came : List (Bor Ranked) → List Ranked
came ys = reverse (map (λ y. y.now) ys)

pub came-more : (ys : List (Bor Ranked)) (y : Bor Ranked) → came (ys ++ y ∷ []) ≡ y.now ∷ came ys
came-more ys y = ap reverse (map-append (λ y. y.now) ys (y ∷ [])) ∙ reverse-append (map (λ y. y.now) ys) (y.now ∷ [])

-- one comes of those that are left
pub came-next : (rs left less : List Ranked) (r : Ranked) (gone : List Ranked) → left ≡ less ++ r ∷ [] → left ++ gone ≡ rs → less ++ (r ∷ gone) ≡ rs
came-next rs left less r gone e all = sym (append_assoc less (r ∷ []) gone) ∙ ap (λ l. l ++ gone) (sym e) ∙ all

-- none is left
pub came-all : (rs left gone : List Ranked) → length left ≡ 0 → left ++ gone ≡ rs → gone ≡ rs
came-all rs left gone e all = ap (λ l. l ++ gone) (sym (nil_from_length left e)) ∙ all

-- ---------------------------------------------------------------- the order of a bus
order_on-behind : (a b : List Ranked) (bus : ℕ) → length (order_on b bus) ≤ length (order_on (a ++ b) bus)
order_on-behind [] b bus = omega arith
order_on-behind (r ∷ a) b bus = grind (arith, order_on-behind a b bus)

-- a leg of the bus comes below those behind it
pub order_on-longer : (rs a : List Ranked) (r : Ranked) (b : List Ranked) (bus : ℕ) → a ++ (r ∷ b) ≡ rs → eqb r.bus bus ≡ true →
    length (order_on b bus) < length (order_on rs bus)
order_on-longer rs a r b bus all on =
    omega (
      arith,
      ap length (cond-true (eqb r.bus bus) (leg_at bus r.message ∷ order_on b bus) (order_on b bus) on),
      order_on-behind a (r ∷ b) bus,
      ap (λ l. length (order_on l bus)) all,
    )

-- ---------------------------------------------------------------- the order of a bus, by places from the end of what is stored
pub order-none : (rs : List Ranked) (bus : ℕ) → order_on (drop (length rs) rs) bus ≡ []
order-none rs bus = ap (λ l. order_on l bus) (drop_all (length rs) rs (omega arith))

module _ (rs : List Ranked) (bus left : ℕ) (d : Ranked) (some' : 0 < left) (within : left ≤ length rs) where
  pub order-before :
      let r = get_or rs (left - 1) d in
      let o = order_on (drop left rs) bus in
      order_on (drop (left - 1) rs) bus ≡ cond (eqb r.bus bus) (leg_at bus r.message ∷ o) o
  order-before =
      let e : left - 1 + 1 ≡ left = omega arith in
      let r = get_or rs (left - 1) d in
      ap (λ l. order_on l bus) (drop_more rs (left - 1) d (omega arith))
      ∙ ap (λ k. cond (eqb r.bus bus) (leg_at bus r.message ∷ order_on (drop k rs) bus) (order_on (drop k rs) bus)) e

pub order-shorter : (rs : List Ranked) (bus i : ℕ) → length (order_on (drop i rs) bus) ≤ length (order_on rs bus)
order-shorter [] bus zero = omega arith
order-shorter [] bus (suc i) = omega arith
order-shorter (r ∷ rs) bus zero = omega arith
order-shorter (r ∷ rs) bus (suc i) = grind (arith, order-shorter rs bus i)

-- a leg of the bus comes below those behind it
pub order-longer : (rs : List Ranked) (bus left : ℕ) (d : Ranked) → 0 < left → left ≤ length rs → eqb (get_or rs (left - 1) d).bus bus ≡ true →
    length (order_on (drop left rs) bus) < length (order_on rs bus)
order-longer rs bus left d some' within on =
    let e = order-before rs bus left d some' within ∙ cond-true _ _ _ on in
    omega (arith, ap length e, order-shorter rs bus (left - 1))

-- ---------------------------------------------------------------- rows
pub length-rows_in : (net : Net) (bus : ℕ) (o : List Leg) → length (rows_in net bus o) ≡ length o
length-rows_in net bus [] = refl
length-rows_in net bus (x ∷ o) = simp length_push (omega (arith, length-rows_in net bus o))

module _ (rules : List Meaning) (gateway : ℕ) (ms : List Message) (bus : ℕ) where
  abbrev pub rows_here : List Leg → List Row
  rows_here o = rows_in (net_of (board_of rules gateway ms)) bus o

  -- the row below the legs seen is that of the order with one leg more
  pub rows_in-seen : (n : ℕ) (o : List Leg) (s : Seen) → Sees bus o s →
      rows_here (leg_at bus n ∷ o) ≡ rows_here o ++ row_below rules ms bus n s.count (member s.above.bits) ∷ []
  rows_in-seen n o s h =
      let e : suc (length o) ≡ s.count + 1 = omega (arith, h.count) in
      λ i. rows_here o ++ (record { bus = bus; rank = e i; message = n; delay = unwrap_or (rule_at rules bus (legs_on ms bus) n (λ k. sym (h.above k) i)) 0 }) ∷ []

  written-rows_in : (n : ℕ) (o : List Leg) (s : Seen) (at : ℕ) (rows₀ rows : List Row) → Sees bus o s → at + length o < length rows₀ →
      rows ≡ written at (rows_here o) rows₀ →
      set rows (at + s.count) (row_below rules ms bus n s.count (member s.above.bits)) ≡ written at (rows_here (leg_at bus n ∷ o)) rows₀
  written-rows_in n o s at rows₀ rows h room was =
      let row = row_below rules ms bus n s.count (member s.above.bits) in
      let long = length-rows_in (net_of (board_of rules gateway ms)) bus o in
      let e : at + s.count ≡ at + length (rows_here o) = omega (arith, h.count, long) in
      ap (λ l. set l (at + s.count) row) was
      ∙ ap (λ k. set (written at (rows_here o) rows₀) k row) e
      ∙ written-push at (rows_here o) rows₀ row (omega (arith, long))
      ∙ ap (λ l. written at l rows₀) (sym (rows_in-seen n o s h))

  -- one turn of a loop that writes the rows
  pub written-rows_step : (t : Bool) (n : ℕ) (o o' : List Leg) (s : Seen) (at : ℕ) (rows₀ rows rows' : List Row) → Sees bus o s →
      (t ≡ true → at + length o < length rows₀) → o' ≡ cond t (leg_at bus n ∷ o) o → rows ≡ written at (rows_here o) rows₀ →
      rows' ≡ cond t (set rows (at + s.count) (row_below rules ms bus n s.count (member s.above.bits))) rows →
      rows' ≡ written at (rows_here o') rows₀
  written-rows_step true n o o' s at rows₀ rows rows' h room next was is =
      is ∙ written-rows_in n o s at rows₀ rows h (room refl) was ∙ ap (λ l. written at (rows_here l) rows₀) (sym next)
  written-rows_step false n o o' s at rows₀ rows rows' h room next was is = is ∙ was ∙ ap (λ l. written at (rows_here l) rows₀) (sym next)

  -- all legs were seen
  pub written-rows_done : (o all : List Leg) (count at : ℕ) (rows₀ rows : List Row) → o ≡ all → count ≡ length o → rows ≡ written at (rows_here o) rows₀ →
      rows ≡ take at rows₀ ++ (rows_here all ++ drop (at + count) rows₀)
  written-rows_done o all count at rows₀ rows e long was =
      was
      ∙ ap (λ n. take at rows₀ ++ (rows_here o ++ drop (at + n) rows₀)) (length-rows_in (net_of (board_of rules gateway ms)) bus o ∙ sym long)
      ∙ ap (λ l. take at rows₀ ++ (rows_here l ++ drop (at + count) rows₀)) e
