-- The first leg that is tested at a rank, and the next one, as the first open legs of a readiness.
use Rattle.std.proofs.Common.{◌≡◌, ℕ, Bool, true, false, List, Some, sym, ap, ◌∙◌, arith}
use Rattle.std.specs.List.{list_all, flat_map}
use Rattle.bus.specs.Rules.{Meaning}
use Rattle.bus.specs.declared.message.Message.{Message}
use Rattle.search.specs.Net.{has}
use Rattle.search.specs.Stored.{stored, behind, head_of, first_by, or_first}
use Rattle.search.specs.Walk.{partnered, candidates}
use Rattle.search.proofs.Candidate.{first-candidate, next-after_ready, next-after_unready}
use Rattle.boards.specs.Boards.{board_of, message_of, rising_messages}
use Rattle.boards.specs.Nets.{leg_at, pairs_of, net_of}
use Rattle.planner.specs.Storage.{ranked_of, open_legs, ready_is, next_such}
use Rattle.planner.specs.declared.ranked.Ranked.{Ranked}
use Rattle.planner.proofs.Above.{above-all, behind-above}
use Rattle.planner.proofs.OwnReady.{partnered-own}

module _ (rules : List Meaning) (gateway : ℕ) (ms : List Message) (rises : rising_messages ms ≡ true) (rs : List Ranked) (bus : ℕ) where
  from_start : (b : Bool) → first_by (ready_is b rs (flat_map pairs_of ms)) (open_legs ms rs bus) ≡ next_such ms rs bus 0 b
  from_start b = ap (first_by (ready_is b rs (flat_map pairs_of ms))) (sym (above-all rs bus 0 0 ms (omega arith) rises))

  pub first-tested :
      head_of (candidates (net_of (board_of rules gateway ms)) (stored (ranked_of rs)) (open_legs ms rs bus))
      ≡ or_first (next_such ms rs bus 0 true) (next_such ms rs bus 0 false)
  first-tested =
      first-candidate (net_of (board_of rules gateway ms)) (stored (ranked_of rs)) (open_legs ms rs bus)
      ∙ (λ i. or_first (from_start true i) (from_start false i))

  module _ (m : Message) (listed : message_of ms m.number ≡ Some m) (open' : has (leg_at bus m.number) (open_legs ms rs bus) ≡ true) where
    from_leg : (b : Bool) →
        first_by (ready_is b rs (flat_map pairs_of ms)) (behind (leg_at bus m.number) (open_legs ms rs bus)) ≡ next_such ms rs bus m.number b
    from_leg b = ap (first_by (ready_is b rs (flat_map pairs_of ms))) (behind-above rs bus m.number ms rises open')

    -- after a ready leg
    pub tested-after_ready : list_all (partnered (stored (ranked_of rs)) (leg_at bus m.number)) (pairs_of m) ≡ true →
        head_of (behind (leg_at bus m.number) (candidates (net_of (board_of rules gateway ms)) (stored (ranked_of rs)) (open_legs ms rs bus)))
        ≡ or_first (next_such ms rs bus m.number true) (next_such ms rs bus 0 false)
    tested-after_ready own =
        next-after_ready (net_of (board_of rules gateway ms)) (stored (ranked_of rs)) (open_legs ms rs bus) (leg_at bus m.number) open'
        (partnered-own (stored (ranked_of rs)) bus ms rises m listed ∙ own)
        ∙ (λ i. or_first (from_leg true i) (from_start false i))

    -- after one that is not ready
    pub tested-after_unready : list_all (partnered (stored (ranked_of rs)) (leg_at bus m.number)) (pairs_of m) ≡ false →
        head_of (behind (leg_at bus m.number) (candidates (net_of (board_of rules gateway ms)) (stored (ranked_of rs)) (open_legs ms rs bus)))
        ≡ next_such ms rs bus m.number false
    tested-after_unready own =
        next-after_unready (net_of (board_of rules gateway ms)) (stored (ranked_of rs)) (open_legs ms rs bus) (leg_at bus m.number)
        (partnered-own (stored (ranked_of rs)) bus ms rises m listed ∙ own)
        ∙ from_leg false
