-- The test of two legs for being the same, by their buses and by their messages' numbers.
use Rattle.std.proofs.Common.{◌≡◌, ℕ, ◌&&◌, ◌||◌, eqb, refl, arith}
use Rattle.std.proofs.lemmas.Bool.Decides.{nat_tests}
use Rattle.bus.specs.declared.message.Message.{Message}
use Rattle.search.specs.Net.{same, touches}
use Rattle.boards.specs.Nets.{leg_at, pair_to}

module _ (a m b n : ℕ) where
  pub same_at : same (leg_at a m) (leg_at b n) ≡ (eqb a b && eqb m n)
  unfolding same
  same_at = refl

-- on one bus
pub same-on : (bus m n : ℕ) → same (leg_at bus m) (leg_at bus n) ≡ eqb m n
unfolding same
same-on bus m n = grind (arith, nat_tests)

-- of one message
pub same-bus : (a b n : ℕ) → same (leg_at a n) (leg_at b n) ≡ eqb a b
unfolding same
same-bus a b n = grind (arith, nat_tests)

-- whether a pair touches a leg of its message
pub touches-pair_to : (m : Message) (bus k : ℕ) → touches (leg_at bus m.number) (pair_to m k) ≡ (eqb bus m.source || eqb bus k)
unfolding same
touches-pair_to m bus k = grind (arith, nat_tests)
