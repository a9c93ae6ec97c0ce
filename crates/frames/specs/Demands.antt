-- The right side of the queuing equation: it does not fall with w, and it is no larger with fewer legs above.
use Rattle.std.specs.Prelude.{◌≡◌, ℕ, ◌*◌, ◌/◌, ◌<◌, ◌≤◌, Bool, true, false, cond, not, List, [], ◌∷◌, is_some, Some, sum_by, ◌==◌, refl}
use Rattle.std.proofs.Common.{ap, ⊎_elim, mul-le-mul_right, arith}
use Rattle.std.proofs.lemmas.Nat.{div-add-mod', le-div}
use Rattle.std.proofs.lemmas.List.Elements.{All-nil, All-cons, All-head, All-tail, All-weaker}
use Rattle.std.proofs.lemmas.List.Sums.{sum_by-cons, sum_by-le-sum_by}
use Rattle.std.proofs.lemmas.Bool.{cases_lt, eq-eqb, eqb-false, and_parts, and_from, not-true, false≢true}
use Rattle.std.specs.List.{All}
use Rattle.bus.specs.Legs.{leg_of}
use Rattle.bus.specs.Rules.{Part}
use Rattle.bus.specs.declared.leg.Leg.{Leg}
use Rattle.frames.specs.Equation.{ceiling, time_of, above, demand_of, queued}
use Rattle.frames.specs.Rising.{Rises}

ceiling-rises : (b : ℕ) → 0 < b → Rises (λ a. ceiling a b)
ceiling-rises b pos v w h =
    ⊎_elim
    (λ (g : v / b < w / b). omega arith)
    (λ (g : w / b ≤ v / b).
    let e : v / b ≤ w / b = le-div (v / b) w b pos (omega (arith, div-add-mod' v b)) in
    let s : v / b * b ≡ w / b * b = ap (λ z. z * b) (omega arith) in
    omega (arith, div-add-mod' v b, div-add-mod' w b))
    (cases_lt (v / b) (w / b))

demand_rises : (time : ℕ → ℕ) (tau : ℕ) (leg : Leg) → Rises (λ w. demand_of time tau w leg)
demand_rises time tau leg v w h =
    mul-le-mul_right (time_of time leg) (ceiling-rises leg.message.period (omega arith) _ _ (omega arith))

sum_mono : {X : Type 0} (f g : X → ℕ) (xs : List X) → All (λ x. f x ≤ g x) xs → sum_by f xs ≤ sum_by g xs
sum_mono f g [] h = omega arith
sum_mono f g (x ∷ xs) h = omega (arith, sum_by-cons f x xs, sum_by-cons g x xs, All-head (λ z. f z ≤ g z) x xs h, sum_mono f g xs (All-tail (λ z. f z ≤ g z) x xs h))

-- each leg of a list is found there by its number
abbrev Found : List Leg → Leg → Type 0
Found legs x = is_some (leg_of legs x.message.number) ≡ true

found-behind : (y : Leg) (xs : List Leg) (x : Leg) → Found xs x → Found (y ∷ xs) x
found-behind y xs x h = go (y.message.number == x.message.number)
  where
    go : (t : Bool) → is_some (cond t (Some y) (leg_of xs x.message.number)) ≡ true
    go true = refl
    go false = h

listed : (xs : List Leg) → All (Found xs) xs
listed [] = All-nil (Found [])
listed (x ∷ xs) =
    All-cons (Found (x ∷ xs)) x xs
    (ap (λ t. is_some (cond t (Some x) (leg_of xs x.message.number))) (eq-eqb x.message.number x.message.number refl))
    (All-weaker (Found xs) (Found (x ∷ xs)) (found-behind x xs) xs (listed xs))

-- a leg above n's in h is above it in k
above-part : (legs : List Leg) (n : ℕ) (h k : ℕ → Bool) → Part legs n h k → (x : Leg) → Found legs x → above n h x ≡ true → above n k x ≡ true
above-part legs n h k part x found a =
    let both = and_parts (not (x.message.number == n)) (h x.message.number) a in
    and_from _ _ both.0
    (part x.message.number found (eqb-false x.message.number n (not-true (x.message.number == n) both.0)) both.1)

cond_less : (s t : Bool) (m : ℕ) → (s ≡ true → t ≡ true) → cond s m 0 ≤ cond t m 0
cond_less true true m h = omega arith
cond_less true false m h = let z : false ≡ true = h refl in absurd (false≢true z)
cond_less false true m h = omega arith
cond_less false false m h = omega arith

cond_rises : (s : Bool) (m n : ℕ) → m ≤ n → cond s m 0 ≤ cond s n 0
cond_rises true m n h = h
cond_rises false m n h = omega arith

module _ (time : ℕ → ℕ) (tau : ℕ) (legs : List Leg) (n : ℕ) where
  pub queued-rises : (h : ℕ → Bool) → Rises (queued time tau legs n h)
  queued-rises h v w l =
      omega (arith, sum_by-le-sum_by (λ x. cond (above n h x) (demand_of time tau v x) 0) (λ x. cond (above n h x) (demand_of time tau w x) 0) legs (λ x. cond_rises (above n h x) _ _ (demand_rises time tau x v w l)))

  pub queued-part : (h k : ℕ → Bool) → Part legs n h k → (w : ℕ) → queued time tau legs n h w ≤ queued time tau legs n k w
  queued-part h k part w =
      let f : Leg → ℕ = λ x. cond (above n h x) (demand_of time tau w x) 0 in
      let g : Leg → ℕ = λ x. cond (above n k x) (demand_of time tau w x) 0 in
      let less = λ (x : Leg) (found : Found legs x). cond_less (above n h x) (above n k x) (demand_of time tau w x) (above-part legs n h k part x found) in
      omega (arith, sum_mono f g legs (All-weaker (Found legs) (λ x. f x ≤ g x) less legs (listed legs)))
