-- What a bus rule means, and the laws that every rule keeps. All that is proved above the rules is proved for each rule with these laws.
use Rattle.std.specs.Prelude.{◌≡◌, ℕ, ◌≤◌, Bool, true, cond, ◌≢◌, List, is_some, Some, None, Option, nat_le}
use Rattle.bus.specs.Legs.{leg_of, rising}
use Rattle.bus.specs.declared.leg.Leg.{Leg}

-- The legs of the bus, the number of the message whose leg is meant, and the set of messages whose legs are above it;
-- to the leg's delay, or None where it is over.
abbrev pub Meaning : Type 0
Meaning = List Leg → ℕ → (ℕ → Bool) → Option ℕ

-- a delay that is at most the deadline; over where it passes it
abbrev pub within : ℕ → ℕ → Option ℕ
within due d = cond (nat_le d due) (Some d) None

-- a delay is at most the leg's deadline
abbrev pub Bounded : Meaning → Type 0
Bounded f = (legs : List Leg) (n : ℕ) (h : ℕ → Bool) (leg : Leg) (d : ℕ)
    → rising legs ≡ true → leg_of legs n ≡ Some leg → f legs n h ≡ Some d → d ≤ leg.message.deadline

-- a message without a leg on the bus is over
abbrev pub Absent : Meaning → Type 0
Absent f = (legs : List Leg) (n : ℕ) (h : ℕ → Bool) → rising legs ≡ true → leg_of legs n ≡ None → f legs n h ≡ None

-- each other leg of the bus that is in h is in k; what else is in h does not count
abbrev pub Part : List Leg → ℕ → (ℕ → Bool) → (ℕ → Bool) → Type 0
Part legs n h k = (j : ℕ) → is_some (leg_of legs j) ≡ true → j ≢ n → h j ≡ true → k j ≡ true

-- The delay law: with fewer legs above it a leg has a delay that is no longer.
abbrev pub Shorter : Meaning → Type 0
Shorter f = (legs : List Leg) (n : ℕ) (h k : ℕ → Bool) (d : ℕ)
    → rising legs ≡ true → Part legs n h k → f legs n k ≡ Some d → (e : ℕ) × (f legs n h ≡ Some e) × (e ≤ d)
