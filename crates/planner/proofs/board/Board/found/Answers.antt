use Rattle.std.proofs.Common.{◌≡◌, true, List, map, vec_items, sym, subst}
use Rattle.search.specs.Stored.{distinct}
use Rattle.planner.specs.BusOrders.{leg_of_rank, are_legs}
use Rattle.planner.specs.declared.ranked.Ranked.{Ranked}
use Rattle.planner.proofs.BoardFacts.{legs_of, once_of}
use Rattle.planner.proofs.board.Board.found.Goals as goal

pub invariant_of-result : goal.invariant_of-result
invariant_of-result g c =
    let board = c.args.self.now in
    let yes = sym c.if-not-has_found.ensures in
    let stored = sym c.deref.ensures.value in
    record {
      legs = subst (λ (rs : List Ranked). are_legs (vec_items board.network.table.messages) rs ≡ true) stored (legs_of board yes);
      once = subst (λ (rs : List Ranked). distinct (map leg_of_rank rs) ≡ true) stored (once_of board yes);
    }
