-- The worked numbers: the frame times compute; of a delay few turns of the equation show the least solution.
use Rattle.std.proofs.Common.{ℕ, ◌≤◌, eqb, [], ◌∷◌, refl, arith, lit≤}
use Rattle.bus.specs.declared.leg.Leg.{Leg}
use Rattle.frames.specs.Classic.{can11_time}
use Rattle.frames.specs.Equation.{queued}
use Rattle.frames.specs.Least.{Least}
use Rattle.frames.specs.Worked.{early, late, lower, WorkedNumbers}
use Rattle.frames.specs.Demands.{queued-rises}
use Rattle.frames.specs.EquationLaws.{delay_is}

-- the right side for message 2 below message 1
abbrev side : Leg → ℕ → ℕ
side upper = queued (can11_time 2000) 2000 (upper ∷ lower ∷ []) 2 (λ k. eqb k 1)

rises : (upper : Leg) (v w : ℕ) → v ≤ w → side upper v ≤ side upper w
rises upper = queued-rises (can11_time 2000) 2000 (upper ∷ lower ∷ []) 2 (λ k. eqb k 1)

early-least : Least (side early) 540000
early-least = record {
  fixed = refl;
  least = λ v s.
      let a : 540000 ≤ side early v = rises early 0 v (omega arith) in
      omega arith;
}

late-least : Least (side late) 810000
late-least = record {
  fixed = refl;
  least = λ v s.
      let a : 540000 ≤ side late v = rises late 0 v (omega arith) in
      let b : 810000 ≤ side late v = rises late 540000 v (omega arith) in
      omega arith;
}

pub worked_numbers : WorkedNumbers
worked_numbers = record {
  can11_8 = refl;
  can11_12 = refl;
  can29_0 = refl;
  fd11_8 = refl;
  fd11_16 = refl;
  fd11_17 = refl;
  fd11_64 = refl;
  one_before =
      delay_is (can11_time 2000) 2000 (early ∷ lower ∷ []) 2 (λ k. eqb k 1) lower refl 540000 early-least (lit≤ tt);
  two_before =
      delay_is (can11_time 2000) 2000 (late ∷ lower ∷ []) 2 (λ k. eqb k 1) lower refl 810000 late-least (lit≤ tt);
}
