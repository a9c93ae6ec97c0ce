-- A leg's readiness, by the pairs of its own message.
use Rattle.std.proofs.Common.{◌≡◌, ℕ, true, List, Some}
use Rattle.std.specs.List.{list_all, flat_map}
use Rattle.std.proofs.lemmas.Bool.{or_left, not_from_false}
use Rattle.bus.specs.declared.message.Message.{Message}
use Rattle.search.specs.Net.{Delays}
use Rattle.search.specs.Walk.{partnered}
use Rattle.boards.specs.Boards.{message_of, rising_messages}
use Rattle.boards.specs.Nets.{leg_at, pairs_of}
use Rattle.boards.proofs.OwnPairs.{own_pairs}

module _ (p : Delays) (bus : ℕ) (ms : List Message) (rises : rising_messages ms ≡ true) where
  pub partnered-own : (m : Message) → message_of ms m.number ≡ Some m →
      list_all (partnered p (leg_at bus m.number)) (flat_map pairs_of ms) ≡ list_all (partnered p (leg_at bus m.number)) (pairs_of m)
  partnered-own m e =
      let x = leg_at bus m.number in
      own_pairs x (partnered p x) (λ pr apart. or_left _ _ (not_from_false _ apart)) ms rises m e
