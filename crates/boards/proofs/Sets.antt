-- A set of buses that is not empty has a bus.
use Rattle.std.proofs.Common.{◌≡◌, ℕ, zero, suc, ◌+◌, ◌-◌, ◌*◌, ◌/◌, ◌^◌, ◌<◌, ◌≤◌, true, refl, inl, inr, add-one, arith}
use native.Mathlib.Nat.{div-eq_of_lt-le}
use Rattle.std.proofs.lemmas.Nat.{pow-add}
use Rattle.std.proofs.lemmas.Bool.{cases_lt, and_from, lt-ltb}
use Rattle.bus.specs.Numbered.{member}

-- the highest bit
top_member : (w bits : ℕ) → 2 ^ w ≤ bits → bits < 2 ^ (w + 1) → member bits (w + 1) ≡ true
unfolding member
top_member w bits low high =
    let p : 2 ^ (w + 1) ≡ 2 ^ w * 2 = pow-add 2 w 1 in
    let one : bits / 2 ^ w ≡ 1 = div-eq_of_lt-le {k = 1} (2 ^ w) (omega arith) (omega arith) in
    let e : w + 1 - 1 ≡ w = omega arith in
    and_from _ _ (lt-ltb 0 (w + 1) (omega arith)) (rw (e, one) refl)

pub some-member : (w bits : ℕ) → 0 < bits → bits < 2 ^ w → (k : ℕ) × (1 ≤ k) × (k ≤ w) × (member bits k ≡ true)
some-member zero bits h g = absurd (omega arith)
some-member (suc w) bits h g =
    elim (cases_lt bits (2 ^ w)) [
      | inl lt ↦ let r = some-member w bits h lt in (r.0, r.1, omega (arith, r.2), r.3)
      | inr ge ↦ (w + 1, omega arith, omega arith, top_member w bits ge (rw add-one g))
    ]
