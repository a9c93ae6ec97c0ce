-- Rows whose buses do not fall: the first is on a bus of the board, and each next one on that bus or a later one.
use Rattle.std.proofs.Common.{◌≡◌, ℕ, zero, suc, ◌+◌, ◌<◌, ◌≤◌, Bool, true, false, ◌&&◌, nat_le, List, [], ◌∷◌, length, slice_index_or, Option, None, Some, Bor, refl, sym, ap, subst, ◌∙◌, arith}
use Rattle.std.specs.Option.{MatchOption, option_copied}
use Rattle.std.specs.List.{list_all, slice_get, AllAdjacentBelow, IsAllAdjacentAnswer}
use Rattle.std.proofs.lemmas.Bool.Decides.{nat_tests}
use Rattle.planner.specs.Checks.{by_bus}
use Rattle.planner.specs.declared.rows.Spot.{Spot}

false-and : (b : Bool) → false ≡ (b && false)
false-and true = refl
false-and false = refl

grouped : (a b c : Bool) → ((a && b) && c) ≡ (a && (b && c))
grouped true b c = refl
grouped false b c = refl

module _ (high : ℕ) where
  -- a row may stand behind another
  abbrev pub in_turn : Spot → Spot → Bool
  in_turn x y = nat_le x.bus y.bus && nat_le y.bus high

  -- the rows behind the first come by bus
  abbrev pub behind_first : List Spot → Bool
  behind_first [] = true
  behind_first (r ∷ rows) = by_bus r.bus high rows

  -- past the first row
  next : (x : Spot) (rows : List Spot) (k : ℕ) (d : Spot) →
      in_turn (slice_index_or rows k d) (slice_index_or (x ∷ rows) (suc k + 1) d) ≡ in_turn (slice_index_or rows k d) (slice_index_or rows (k + 1) d)
  next x rows k d =
      let e : suc k + 1 ≡ suc (k + 1) = omega arith in
      ap (λ j. in_turn (slice_index_or rows k d) (slice_index_or (x ∷ rows) j d)) e

  all_in_turn : (rows : List Spot) → AllAdjacentBelow (λ x y. true ≡ in_turn x y) rows (length rows) → true ≡ behind_first rows
  all_in_turn [] h = refl
  all_in_turn (x ∷ []) h = refl
  all_in_turn (x ∷ (y ∷ rows)) h =
      let rest : true ≡ by_bus y.bus high rows = all_in_turn (y ∷ rows) (λ k d l. h (suc k) d (omega arith) ∙ next x (y ∷ rows) k d) in
      rest ∙ ap (λ b. b && by_bus y.bus high rows) (h 0 x (omega arith)) ∙ grouped (nat_le x.bus y.bus) (nat_le y.bus high) (by_bus y.bus high rows)

  out_of_turn : (rows : List Spot) (k : ℕ) → k + 1 < length rows →
      ((d : Spot) → false ≡ in_turn (slice_index_or rows k d) (slice_index_or rows (k + 1) d)) → false ≡ behind_first rows
  out_of_turn [] k l h = absurd (omega arith)
  out_of_turn (x ∷ []) k l h = absurd (omega arith)
  out_of_turn (x ∷ (y ∷ rows)) zero l h =
      ap (λ b. b && by_bus y.bus high rows) (h x) ∙ grouped (nat_le x.bus y.bus) (nat_le y.bus high) (by_bus y.bus high rows)
  out_of_turn (x ∷ (y ∷ rows)) (suc k) l h =
      false-and (in_turn x y) ∙ ap (λ b. in_turn x y && b) (out_of_turn (y ∷ rows) k (omega arith) (λ d. h d ∙ next x (y ∷ rows) k d))
      ∙ grouped (nat_le x.bus y.bus) (nat_le y.bus high) (by_bus y.bus high rows)

  pub behind_first-from_sorted : (rows : List Spot) (r : Bool) → IsAllAdjacentAnswer (λ x y b. b ≡ in_turn x y) rows r → r ≡ behind_first rows
  behind_first-from_sorted rows true h = all_in_turn rows h
  behind_first-from_sorted rows false h = out_of_turn rows h.0 h.1 h.2

  -- a bus of the board
  abbrev pub on_bus : Spot → Bool
  on_bus r = nat_le 1 r.bus && nat_le r.bus high

  pub behind_first-where_first_is_on_bus : (rows : List Spot) (o : Option Spot) → o ≡ slice_get rows 0 →
      MatchOption o (Unit {0}) (λ r. on_bus r ≡ true) → behind_first rows ≡ by_bus 1 high rows
  behind_first-where_first_is_on_bus [] o e h = refl
  behind_first-where_first_is_on_bus (r ∷ rows) o e h =
      let here : on_bus r ≡ true = subst (λ x. MatchOption x (Unit {0}) (λ y. on_bus y ≡ true)) e h in
      sym (ap (λ b. b && by_bus r.bus high rows) here) ∙ grouped (nat_le 1 r.bus) (nat_le r.bus high) (by_bus r.bus high rows)

  -- what `is_none_or` answers of the first row
  pub first_on_bus : (P : Type 0) (Q : Bor Spot → Type 0) (o : Option (Bor Spot)) (b : Bool) → MatchOption o P Q →
      ((x : Bor Spot) → Q x → b ≡ on_bus x.now) → b ≡ true → MatchOption (option_copied o) (Unit {0}) (λ r. on_bus r ≡ true)
  first_on_bus P Q None b h k e = tt
  first_on_bus P Q (Some x) b h k e = sym (k x h) ∙ e

-- ---------------------------------------------------------------- range and order apart
-- the buses do not fall, from low on
abbrev rises : ℕ → List Spot → Bool
rises low [] = true
rises low (r ∷ rows) = nat_le low r.bus && rises r.bus rows

abbrev pub rising : List Spot → Bool
rising [] = true
rising (r ∷ rows) = rises r.bus rows

module _ (high : ℕ) where
  by_bus-rises : (low : ℕ) (rows : List Spot) → by_bus low high rows ≡ (list_all (λ r. nat_le r.bus high) rows && rises low rows)
  by_bus-rises low [] = refl
  by_bus-rises low (r ∷ rows) = grind (arith, by_bus-rises r.bus rows)

  rises-high : (low : ℕ) (rows : List Spot) → 1 ≤ low → rises low rows ≡ true → list_all (λ r. nat_le 1 r.bus) rows ≡ true
  rises-high low [] l h = refl
  rises-high low (r ∷ rows) l h = grind (arith, nat_tests, rises-high r.bus rows)

  inside-parts : (rows : List Spot) →
      list_all (λ r. nat_le 1 r.bus && nat_le r.bus high) rows ≡ (list_all (λ r. nat_le 1 r.bus) rows && list_all (λ r. nat_le r.bus high) rows)
  inside-parts [] = refl
  inside-parts (r ∷ rows) = grind (arith, inside-parts rows)

  pub by_bus-apart : (rows : List Spot) → (list_all (λ r. nat_le 1 r.bus && nat_le r.bus high) rows && rising rows) ≡ by_bus 1 high rows
  by_bus-apart [] = refl
  by_bus-apart (r ∷ rows) = grind (arith, nat_tests, inside-parts rows, by_bus-rises r.bus rows, rises-high r.bus rows)
