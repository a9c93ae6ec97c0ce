-- The example boards: their rule keeps the rule laws, and the rest computes.
use Rattle.std.proofs.Common.{◌≡◌, ℕ, ◌+◌, ◌*◌, ◌≤◌, Bool, leb, List, [], ◌∷◌, Some, None, Option, refl, ap, ◌∙◌, arith, rules}
use Rattle.std.proofs.lemmas.Bool.{leb-true, le-leb, cond-true}
use Rattle.std.proofs.lemmas.Bool.Decides.{nat_tests}
use Rattle.std.proofs.lemmas.Option.{none-some, cond_some}
use Rattle.bus.specs.Legs.{leg_of}
use Rattle.bus.specs.Numbered.{member}
use Rattle.bus.specs.Rules.{Bounded, Absent, Part, Shorter}
use Rattle.bus.specs.declared.leg.Leg.{Leg as BusLeg}
use Rattle.search.specs.Net.{same}
use Rattle.boards.specs.Boards.{Keeps}
use Rattle.boards.specs.Example.{others_in, within_deadline, even_frames, ExampleBoards}

others_fewer : (legs : List BusLeg) (n : ℕ) (h k : ℕ → Bool) → Part legs n h k → others_in legs n h ≤ others_in legs n k
others_fewer [] n h k part = omega arith
others_fewer (x ∷ xs) n h k part =
    let rest = others_fewer xs n h k (λ j on. part j (grind (arith, on))) in
    let here = part x.message.number (grind (arith, nat_tests)) in
    grind (arith, nat_tests)

-- a delay that is given, and that it is within the leg's deadline
pub record Given (l : Option BusLeg) (d e : ℕ) : Type 0 where
  pub leg : BusLeg
  pub here : l ≡ Some leg
  pub same : d ≡ e
  pub within : e ≤ leg.message.deadline

given : (l : Option BusLeg) (d e : ℕ) → within_deadline l d ≡ Some e → Given l d e
given None d e h = absurd (none-some e h)
given (Some leg) d e h =
    let p = cond_some (leb d leg.message.deadline) d e h in
    record { leg = leg; here = refl; same = p.1; within = omega (arith, leb-true _ _ p.0, p.1) }

even_bounded : Bounded even_frames
even_bounded legs n h leg d rises here e =
    let w = given (leg_of legs n) (270000 * (2 + others_in legs n h)) d e in
    let s : w.leg ≡ leg = cc in
    rw s at w.within

even_absent : Absent even_frames
even_absent legs n h rises none = ap (λ l. within_deadline l (270000 * (2 + others_in legs n h))) none

even_shorter : Shorter even_frames
even_shorter legs n h k d rises part e =
    let w = given (leg_of legs n) (270000 * (2 + others_in legs n k)) d e in
    let fewer = others_fewer legs n h k part in
    let shorter : ℕ = 270000 * (2 + others_in legs n h) in
    let le : shorter ≤ w.leg.message.deadline = omega (arith, w.within, w.same) in
    (shorter, (ap (λ l. within_deadline l shorter) w.here ∙ cond-true _ _ _ (le-leb _ _ le)), omega (arith, w.same))

even_keeps : Keeps even_frames
even_keeps = record { bounded = even_bounded; absent = even_absent; shorter = even_shorter }

pub example-boards : ExampleBoards
unfolding same member
example-boards = search (rules, even_keeps)
