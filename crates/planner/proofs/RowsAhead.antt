-- The legs that rows name ahead of a leg are those that stand behind it in the order of its bus; and the turns of a loop that collects them.
use Rattle.std.proofs.Common.{◌≡◌, ℕ, ◌≤◌, Bool, true, false, cond, not, ◌&&◌, ◌||◌, eqb, List, [], ◌∷◌, reverse, sym, refl, ap, ◌∙◌, inl, inr, arith}
use mathlib.Core.List.{reverse-cons}
use Rattle.std.proofs.lemmas.Bool.{and_parts, and_right, not-true, true≢false, both_ways, cases_Bool, eqb-true}
use Rattle.std.proofs.lemmas.Bool.Decides.{nat_tests}
use Rattle.bus.specs.Numbered.{member}
use Rattle.bus.specs.Range.{inside, numbers}
use Rattle.search.specs.Net.{Leg, same, has}
use Rattle.search.specs.Stored.{behind, distinct}
use Rattle.search.proofs.Behind.{behind-in, behind-past}
use Rattle.search.proofs.Legs.{same-tells, has-append}
use Rattle.boards.specs.Nets.{leg_at}
use Rattle.planner.specs.Checks.{by_bus}
use Rattle.planner.specs.Spots.{down_in, ahead}
use Rattle.planner.specs.declared.rows.Spot.{Spot}
use Rattle.planner.proofs.OrderSteps.{down_in-here, down_in-elsewhere}
use Rattle.planner.proofs.OrderTests.{has-reverse}

-- ---------------------------------------------------------------- ahead
pub has-ahead : (x y : Leg) (d : List Leg) → has y (ahead x d) ≡ true → has y d ≡ true
has-ahead x y [] h = h
has-ahead x y (z ∷ d) h = grind (arith, has-ahead x y d)

pub ahead-behind : (x y : Leg) (d : List Leg) → distinct d ≡ true → has x d ≡ true → has y (behind x (reverse d)) ≡ has y (ahead x d)
ahead-behind x y [] one h = grind arith
ahead-behind x y (z ∷ d) one h =
    let both = and_parts (not (has z d)) (distinct d) one in
    let turned = ap (λ l. has y (behind x l)) (reverse-cons z d) in
    elim (cases_Bool (has x d)) [
      | inl on ↦
          let other : same x z ≡ false = elim (same-tells x z) [ inl e ↦ absurd (both_ways (has z d) (not-true _ both.0) (ap (λ v. has v d) (sym e.1) ∙ on)) | inr e ↦ e ] in
          turned
          ∙ ap (has y) (behind-in x (reverse d) (z ∷ []) (has-reverse x d ∙ on))
          ∙ has-append y (behind x (reverse d)) (z ∷ [])
          ∙ grind (arith, ahead-behind x y d both.1 on, other)
      | inr off ↦
          let own : same x z ≡ true = grind (arith, off, h) in
          turned ∙ ap (has y) (behind-past x (reverse d) (z ∷ []) (has-reverse x d ∙ off)) ∙ grind (arith, own)
    ]

-- ---------------------------------------------------------------- the rows of a bus
pub down_in-bus : (rows : List Spot) (k bus n : ℕ) → has (leg_at bus n) (down_in rows k) ≡ true → bus ≡ k
unfolding same
down_in-bus [] k bus n h = grind arith
down_in-bus (r ∷ rows) k bus n h = grind (arith, nat_tests, down_in-bus rows k bus n)

pub down_in-within : (low high : ℕ) (rows : List Spot) (bus n : ℕ) → by_bus low high rows ≡ true → has (leg_at bus n) (down_in rows bus) ≡ true → (low ≤ bus) × (bus ≤ high)
down_in-within low high [] bus n by h = grind arith
down_in-within low high (r ∷ rows) bus n by h =
    let rest : by_bus r.bus high rows ≡ true = grind (arith, by) in
    grind (arith, nat_tests, down_in-within r.bus high rows bus n rest)

-- ---------------------------------------------------------------- the loop
-- the number k is that of a message, whose leg is named ahead of that of message n
unfoldable pub named_ahead : List Spot → ℕ → ℕ → ℕ → Bool
named_ahead rows bus n k = inside numbers k && has (leg_at bus k) (ahead (leg_at bus n) (down_in rows bus))

pub named_ahead-means : (rows : List Spot) (bus n k : ℕ) → named_ahead rows bus n k ≡ (inside numbers k && has (leg_at bus k) (ahead (leg_at bus n) (down_in rows bus)))
unfolding named_ahead
named_ahead-means rows bus n k = refl

pub named_ahead-elsewhere : (bus n : ℕ) (r : Spot) (rest : List Spot) → (r.bus ≡ bus → ⊥) → (k : ℕ) → named_ahead (r ∷ rest) bus n k ≡ named_ahead rest bus n k
unfolding named_ahead
named_ahead-elsewhere bus n r rest away k = ap (λ d. inside numbers k && has (leg_at bus k) (ahead (leg_at bus n) d)) (down_in-elsewhere r rest bus away)

merged : (e b i j a : Bool) → (e ≡ true → i ≡ j) → ((j && e || b) || (i && a)) ≡ (b || (i && (e || a)))
merged false b i true a h = refl
merged false b i false a h = refl
merged true true i true a h = refl
merged true true i false a h = refl
merged true false true true a h = refl
merged true false true false a h = absurd (true≢false (h refl))
merged true false false true a h = absurd (true≢false (sym (h refl)))
merged true false false false a h = refl

module _ (bus n : ℕ) (r : Spot) (rest : List Spot) (here : r.bus ≡ bus) where
  pub has-down_in_found : r.message ≡ n → has (leg_at bus n) (down_in (r ∷ rest) bus) ≡ true
  unfolding same
  has-down_in_found e = ap (has (leg_at bus n)) (down_in-here r rest bus here) ∙ grind (arith, nat_tests)

  pub named_ahead-none : r.message ≡ n → (k : ℕ) → named_ahead (r ∷ rest) bus n k ≡ false
  unfolding same named_ahead
  named_ahead-none e k = ap (λ d. inside numbers k && has (leg_at bus k) (ahead (leg_at bus n) d)) (down_in-here r rest bus here) ∙ and_right (inside numbers k) _ (grind (arith, nat_tests))

  pub has-down_in_other : (r.message ≡ n → ⊥) → has (leg_at bus n) (down_in (r ∷ rest) bus) ≡ has (leg_at bus n) (down_in rest bus)
  unfolding same
  has-down_in_other ne = ap (has (leg_at bus n)) (down_in-here r rest bus here) ∙ grind (arith, nat_tests)

  same-apart : (r.message ≡ n → ⊥) → same (leg_at bus n) (leg_at bus r.message) ≡ false
  unfolding same
  same-apart ne = grind (arith, nat_tests)

  same-number : (k : ℕ) → same (leg_at bus k) (leg_at bus r.message) ≡ eqb k r.message
  unfolding same
  same-number k = grind (arith, nat_tests)

  pub named_ahead-more : (r.message ≡ n → ⊥) → (bits more : ℕ) → ((k : ℕ) → member more k ≡ (inside numbers r.message && eqb k r.message || member bits k)) →
      (k : ℕ) → (member more k || named_ahead rest bus n k) ≡ (member bits k || named_ahead (r ∷ rest) bus n k)
  unfolding named_ahead
  named_ahead-more ne bits more one k =
      let d = down_in rest bus in
      let a = has (leg_at bus k) (ahead (leg_at bus n) d) in
      let now : has (leg_at bus k) (ahead (leg_at bus n) (down_in (r ∷ rest) bus)) ≡ (eqb k r.message || a) =
      ap (λ l. has (leg_at bus k) (ahead (leg_at bus n) l)) (down_in-here r rest bus here)
      ∙ ap (λ t. has (leg_at bus k) (cond t [] (leg_at bus r.message ∷ ahead (leg_at bus n) d))) (same-apart ne)
      ∙ ap (λ t. t || a) (same-number k)
      in
      ap (λ t. t || (inside numbers k && a)) (one k)
      ∙ merged (eqb k r.message) (member bits k) (inside numbers k) (inside numbers r.message) a (λ e. ap (inside numbers) (eqb-true k r.message e))
      ∙ sym (ap (λ t. member bits k || (inside numbers k && t)) now)
