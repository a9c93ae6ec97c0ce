use Rattle.std.proofs.Common.{◌≡◌, ℕ, true}
use Rattle.search.specs.Stored.{placed, retract}
use Rattle.planner.specs.Storage.{ranked_of}
use Rattle.planner.specs.Stages.{layout, Placed}
use Rattle.planner.proofs.walk.Walk.retract.Given as goal

abbrev pub invariant-loop-leg : goal.invariant-loop-leg
invariant-loop-leg l =
    Placed l.table.messages.items l.self.ranked.items
    × ((count : ℕ) →
    let net = layout count l.table.messages.items in
    placed net (ranked_of l.initial.self.ranked.items) ≡ true →
    (placed net (ranked_of l.self.ranked.items) ≡ true)
    × (retract net (ranked_of l.self.ranked.items) ≡ retract net (ranked_of l.initial.self.ranked.items)))

abbrev pub decreases-loop-leg : goal.decreases-loop-leg
decreases-loop-leg l = goal.left-loop-leg l
