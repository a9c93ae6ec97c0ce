-- The net of the worked example is lawful.
use Rattle.std.proofs.Common.{◌≡◌, ℕ, ◌≤◌, Bool, true, false, cond, [], ◌∷◌, Some, None, refl, arith}
use Rattle.std.proofs.lemmas.Bool.Decides.{nat_tests}
use Rattle.std.specs.List.{list_any}
use Rattle.search.specs.Net.{Leg, same, has, has_any, touches}
use Rattle.search.specs.Example.{bus1, bus2, both_buses, other, example, ExampleLawful}

-- a leg is on a bus or not, and the other one is among fewer legs, h, and among more, k, or not
shorter-by_tests : (on h k : Bool) (d : ℕ) → (h ≡ true → k ≡ true) →
    cond on (Some (cond k 810000 540000)) None ≡ Some d →
    (e : ℕ) × (cond on (Some (cond h 810000 540000)) None ≡ Some e) × (e ≤ d)
shorter-by_tests false h k d part e = absurd (let z : ◌≡◌ {A = ℕ} 0 1 = cc in omega arith)
shorter-by_tests true h k d part e = (cond h 810000 540000, refl, grind arith)

not_on_both : (y : Leg) → has y bus1 ≡ true → has_any y (bus2 ∷ []) ≡ false
unfolding same
not_on_both y h = grind (arith, nat_tests)

in_a_pair : (due1 due2 : ℕ) (x : Leg) → has_any x both_buses ≡ true → list_any (touches x) (example due1 due2).pairs ≡ true
in_a_pair due1 due2 x h = grind arith

pub example-lawful : ExampleLawful
unfolding same
example-lawful due1 due2 =
    record {
      shorter = λ x h k d part e. shorter-by_tests (has_any x both_buses) (has (other x) h) (has (other x) k) d (part (other x)) e;
      apart = (not_on_both, ((λ y h. refl), tt));
      each = in_a_pair due1 due2;
      locals_on = refl;
      pairs_on = refl;
    }
