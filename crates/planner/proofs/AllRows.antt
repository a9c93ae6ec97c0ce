-- The rows of the first buses, one after another: how many there are, and that those of all buses are what is shown.
use Rattle.std.proofs.Common.{◌≡◌, ℕ, zero, suc, ◌+◌, ◌-◌, ◌≤◌, Bool, true, ◌&&◌, ltb, leb, List, [], ◌∷◌, ◌++◌, map, length, take, drop, sym, refl, ap, ◌∙◌, add-zero, zero-add, arith}
use Rattle.std.proofs.lemmas.Simd.{map-map}
use Rattle.std.specs.List.{list_all, filter}
use Rattle.std.proofs.lemmas.List.{append-nil, append_assoc, length-append}
use Rattle.std.proofs.lemmas.List.Sums.{length-filter, count_by-le-length}
use Rattle.std.proofs.lemmas.Bool.Decides.{nat_tests}
use Rattle.bus.specs.Rules.{Meaning}
use Rattle.bus.specs.declared.message.Message.{Message}
use Rattle.search.specs.Net.{Net}
use Rattle.search.specs.Stored.{order_of, orders_of}
use Rattle.boards.specs.Boards.{board_of}
use Rattle.boards.specs.Nets.{net_legs, numbers_from, bus_numbers, net_of}
use Rattle.planner.specs.BusOrders.{are_legs, order_on}
use Rattle.planner.specs.Calls.{rows_in, rows_from, rows_of}
use Rattle.planner.specs.Storage.{ranked_of}
use Rattle.planner.specs.declared.ranked.Ranked.{Ranked}
use Rattle.planner.specs.declared.rows.Row.{Row}
use Rattle.planner.proofs.StoredOrders.{order_of-stored}
use Rattle.planner.proofs.SeenLegs.{length-rows_in}
use Rattle.planner.proofs.Written.{written-more}

-- ---------------------------------------------------------------- how many a test keeps
length-filter_all : {X : Type 0} (f : X → Bool) (xs : List X) → list_all f xs ≡ true → length (filter f xs) ≡ length xs
length-filter_all f [] h = refl
length-filter_all f (x ∷ xs) h = grind (arith, length-filter_all f xs)

-- the leg is on one of the first k buses
abbrev pub on_first : ℕ → Ranked → Bool
on_first k r = ltb 0 r.bus && leb r.bus k

length-filter_on_first_more : (k : ℕ) (xs : List Ranked) → length (filter (on_first (suc k)) xs) ≡ length (filter (on_first k) xs) + length (order_on xs (suc k))
length-filter_on_first_more k [] = omega arith
length-filter_on_first_more k (x ∷ xs) = grind (arith, nat_tests, length-filter_on_first_more k xs)

length-filter_on_first_none : (xs : List Ranked) → length (filter (on_first 0) xs) ≡ 0
length-filter_on_first_none [] = refl
length-filter_on_first_none (x ∷ xs) = grind (arith, nat_tests, length-filter_on_first_none xs)

-- ---------------------------------------------------------------- the rows of the first buses
abbrev pub rows_to : Net → List Ranked → ℕ → List Row
rows_to net rs zero = []
rows_to net rs (suc k) = rows_to net rs k ++ rows_in net (suc k) (order_on rs (suc k))

module _ (net : Net) (rs : List Ranked) where
  rows_to-more : (bus : ℕ) → 1 ≤ bus → rows_to net rs bus ≡ rows_to net rs (bus - 1) ++ rows_in net bus (order_on rs bus)
  rows_to-more zero h = absurd (omega arith)
  rows_to-more (suc k) h = let e : k ≡ suc k - 1 = omega arith in ap (λ j. rows_to net rs j ++ rows_in net (suc k) (order_on rs (suc k))) e

  rows_to-split : (k n : ℕ) → rows_to net rs k ++ rows_from net (suc k) (map (order_on rs) (numbers_from (suc k) n)) ≡ rows_to net rs (k + n)
  rows_to-split k zero = append-nil (rows_to net rs k) ∙ ap (rows_to net rs) (sym (add-zero k))
  rows_to-split k (suc n) =
      let e : suc k + n ≡ k + suc n = omega arith in
      sym (append_assoc (rows_to net rs k) (rows_in net (suc k) (order_on rs (suc k))) (rows_from net (suc (suc k)) (map (order_on rs) (numbers_from (suc (suc k)) n))))
      ∙ rows_to-split (suc k) n
      ∙ ap (rows_to net rs) e

  rows_of-buses : (n : ℕ) → rows_of net (map (order_on rs) (bus_numbers n)) ≡ rows_to net rs n
  rows_of-buses n = rows_to-split 0 n ∙ ap (rows_to net rs) (zero-add n)

  -- ---------------------------------------------------------------- how many
  length-rows_to : (k : ℕ) → length (rows_to net rs k) ≡ length (filter (on_first k) rs)
  length-rows_to zero = sym (length-filter_on_first_none rs)
  length-rows_to (suc k) =
      omega (
        arith,
        length-append (rows_to net rs k) (rows_in net (suc k) (order_on rs (suc k))),
        length-rows_in net (suc k) (order_on rs (suc k)),
        length-rows_to k,
        length-filter_on_first_more k rs,
      )

  rows_to-at_most : (k : ℕ) → length (rows_to net rs k) ≤ length rs
  rows_to-at_most k = omega (arith, length-rows_to k, length-filter (on_first k) rs, count_by-le-length (on_first k) rs)

  -- so a bus finds room behind those before it
  pub rows_to-room : (bus : ℕ) → 1 ≤ bus → length (rows_to net rs (bus - 1)) + length (order_on rs bus) ≤ length rs
  rows_to-room bus low =
      omega (
        arith,
        rows_to-at_most bus,
        ap length (rows_to-more bus low),
        length-append (rows_to net rs (bus - 1)) (rows_in net bus (order_on rs bus)),
        length-rows_in net bus (order_on rs bus),
      )

  -- the rows of the first k buses are written up to a place
  abbrev pub Filled : ℕ → ℕ → List Row → List Row → Type 0
  Filled k at rows₀ rows = (at ≡ length (rows_to net rs k)) × (rows ≡ rows_to net rs k ++ drop at rows₀)

  -- one turn of a loop that writes the rows of the buses
  pub Filled-step : (bus at end : ℕ) (rows₀ rows rows' : List Row) → 1 ≤ bus → Filled (bus - 1) at rows₀ rows → end ≡ at + length (order_on rs bus) →
      rows' ≡ take at rows ++ (rows_in net bus (order_on rs bus) ++ drop end rows) → Filled bus end rows₀ rows'
  Filled-step bus at end rows₀ rows rows' low was there is =
      let old = rows_to net rs (bus - 1) in
      let new = rows_in net bus (order_on rs bus) in
      let more = rows_to-more bus low in
      let long = length-rows_in net bus (order_on rs bus) in (
        omega (arith, was.0, ap length more, length-append old new, long),
        is ∙ written-more old new rows₀ rows at end was.0 (omega (arith, long)) was.1 ∙ ap (λ l. l ++ drop end rows₀) (sym more),
      )

  -- where every ranked leg is on one of the buses, each has its row
  rows_to-all : (k : ℕ) → list_all (on_first k) rs ≡ true → length (rows_to net rs k) ≡ length rs
  rows_to-all k h = length-rows_to k ∙ length-filter_all (on_first k) rs h

-- ---------------------------------------------------------------- what is shown
module _ (ms : List Message) (rs : List Ranked) (legs : are_legs ms rs ≡ true) (rules : List Meaning) (gateway : ℕ) where
  abbrev net : Net
  net = net_of (board_of rules gateway ms)

  orders_of-stored : (ks : List ℕ) → map (order_of (ranked_of rs)) (map (net_legs ms) ks) ≡ map (order_on rs) ks
  orders_of-stored ks = map-map (order_of (ranked_of rs)) (net_legs ms) ks ∙ (λ i. map (λ k. order_of-stored ms rs k legs i) ks)

  pub rows_of-shown : rows_of net (orders_of net (ranked_of rs)) ≡ rows_to net rs (length rules)
  rows_of-shown = ap (rows_of net) (orders_of-stored (bus_numbers (length rules))) ∙ rows_of-buses net rs (length rules)

  -- the rows of all buses are written
  pub Filled-all : (k at : ℕ) (rows₀ rows : List Row) → k ≡ length rules → Filled net rs k at rows₀ rows →
      let shown = rows_of net (orders_of net (ranked_of rs)) in
      (at ≡ length shown) × (rows ≡ shown ++ drop at rows₀)
  Filled-all k at rows₀ rows end was =
      let e = ap (rows_to net rs) end ∙ sym rows_of-shown in
      (was.0 ∙ ap length e, was.1 ∙ ap (λ l. l ++ drop at rows₀) e)

  -- where every ranked leg is on one of the buses, as many are shown as are ranked
  pub length-rows_shown : list_all (on_first (length rules)) rs ≡ true → length (rows_of net (orders_of net (ranked_of rs))) ≡ length rs
  length-rows_shown on = ap length rows_of-shown ∙ rows_to-all net rs (length rules) on
