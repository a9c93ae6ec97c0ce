-- What a set of bits has: nothing where it is 0, nothing above its bits, and one number more where its bit is set.
use Rattle.std.proofs.Common.{◌≡◌, ℕ, ◌-◌, ◌*◌, ◌/◌, ◌%◌, ◌^◌, ◌<◌, ◌≤◌, true, false, ◌&&◌, ◌||◌, eqb, ltb, sym, refl, ap, ◌∙◌, ⊎_elim, arith, w64}
use lib.Bits.{bit_and, bit_or}
use Rattle.std.proofs.lemmas.Bool.{eq-eqb, ne_eqb, cases_eq, cases_lt, lt-ltb, le-ltb, and_right}
use Rattle.std.proofs.lemmas.Bool.Decides.{nat_tests}
use Rattle.std.proofs.lemmas.Nat.Bits.{bit_at-zero, bit_at_above, shr_and_one, bit_at_set_same, bit_at_set_other}
use Rattle.bus.specs.Numbered.{member}
use Rattle.bus.specs.Range.{inside, numbers}

pub member-none : (k : ℕ) → member 0 k ≡ false
unfolding member
member-none k = and_right (ltb 0 k) _ (ap (λ b. eqb b 1) (bit_at-zero (k - 1)))

-- no set has 0
member-zero : (bits k : ℕ) → k ≤ 0 → member bits k ≡ false
unfolding member
member-zero bits k h = ap (λ t. t && eqb (bits / 2 ^ (k - 1) % 2) 1) (le-ltb 0 k h)

-- any other number is in the set where its bit is 1
member-bit : (bits k : ℕ) → 0 < k → member bits k ≡ eqb (bits / 2 ^ (k - 1) % 2) 1
unfolding member
member-bit bits k h = ap (λ t. t && eqb (bits / 2 ^ (k - 1) % 2) 1) (lt-ltb 0 k h)

-- a set of w bits has no number above w
pub member-above : (w bits k : ℕ) → bits < 2 ^ w → w < k → member bits k ≡ false
unfolding member
member-above w bits k h g = and_right (ltb 0 k) _ (ap (λ b. eqb b 1) (bit_at_above bits w (k - 1) h (omega arith)))

-- the test of a program: a shift and a mask
pub member-shifted : (bits k : ℕ) → 0 < k → eqb (bit_and (bits / 2 ^ (k - 1)) 1) 1 ≡ member bits k
member-shifted bits k h = ap (λ b. eqb b 1) (shr_and_one bits (k - 1)) ∙ sym (member-bit bits k h)

-- a set of 64 bits has only numbers from 1 to 64
pub member-outside : (bits k : ℕ) → bits < 2 ^ 64 → inside numbers k ≡ false → member bits k ≡ false
member-outside bits k h out =
    ⊎_elim
    (λ (g : 64 < k). member-above 64 bits k h g)
    (λ (g : k ≤ 64). member-zero bits k (grind (arith, nat_tests)))
    (cases_lt 64 k)

pub number_above-zero : (n : ℕ) → inside numbers n ≡ true → 0 < n
number_above-zero n h = grind (arith, nat_tests)

-- the set that a program makes with the number n
pub member-with : (bits n k : ℕ) → inside numbers n ≡ true →
    member (bit_or bits ((1 * 2 ^ (n - 1)) % 2 ^ 64)) k ≡ (inside numbers n && eqb k n || member bits k)
member-with bits n k low =
    let place : n - 1 < 64 = grind (arith, nat_tests) in
    let above : 0 < n = number_above-zero n low in
    let put : ℕ = bit_or bits ((1 * 2 ^ (n - 1)) % 2 ^ 64) in
    let same : k ≡ n → member put k ≡ (eqb k n || member bits k) = λ e. rw (e, member-bit put n above, bit_at_set_same w64 bits (n - 1) place, eq-eqb n n refl) refl in
    let other : (k ≡ n → ⊥) → member put k ≡ (eqb k n || member bits k) = λ d.
    ⊎_elim
    (λ (g : 0 < k). rw (member-bit put k g, bit_at_set_other w64 bits (n - 1) place (k - 1) (λ e. d (omega arith)), ← member-bit bits k g, ne_eqb k n d) refl)
    (λ (g : k ≤ 0). rw (member-zero put k g, member-zero bits k g, ne_eqb k n d) refl)
    (cases_lt 0 k) in
    ⊎_elim same other (cases_eq k n) ∙ sym (ap (λ t. t && eqb k n || member bits k) low)
