-- What a board's invariants give: it is sound, and where its walk is complete its ranked legs are all its legs, each once, and what it has found.
use Rattle.std.proofs.Common.{◌≡◌, ℕ, ◌≤◌, true, not, ◌&&◌, List, map, length, is_some, Some, vec_items, ap, ◌∙◌, subst, arith}
use Rattle.std.proofs.lemmas.Bool.{and_parts}
use Rattle.std.specs.List.{list_all}
use Rattle.bus.specs.Rules.{Meaning}
use Rattle.bus.specs.declared.message.Message.{Message}
use Rattle.search.specs.Net.{Net, has}
use Rattle.search.specs.Stored as walk
use Rattle.boards.specs.Boards.{message_of, on_board, Keeps, Sound}
use Rattle.boards.specs.Nets.{leg_at, net_legs, leg_from, bus_numbers, net_of}
use Rattle.boards.proofs.Buses.{any_among}
use Rattle.boards.proofs.Elements.{numbers-among}
use Rattle.planner.specs.BusOrders.{leg_of_rank, are_legs}
use Rattle.planner.specs.Calls.{rows_of}
use Rattle.planner.specs.Refusing.{is_none}
use Rattle.planner.specs.Stages.{stands, is_complete}
use Rattle.planner.specs.Standing.{found_orders}
use Rattle.planner.specs.Storage.{ranked_of}
use Rattle.planner.specs.Views.{board_in, standing}
use Rattle.planner.specs.declared.board.Board.{Board}
use Rattle.planner.specs.declared.ranked.Ranked.{Ranked}
use Rattle.planner.specs.declared.stage.Stage.TheVariants.{Complete}
use Rattle.planner.proofs.MessageLegs.{has-leg_from}
use Rattle.planner.proofs.BusRules.{length-rules_of}
use Rattle.planner.proofs.AllRows.{on_first, length-rows_shown}
use Rattle.planner.proofs.FitOnBoard.{placed_at-board}
use Rattle.planner.proofs.FreshBoards.{Sound-board_of}
use Rattle.planner.proofs.Listings.{is_complete-means, found_orders-found}
use Rattle.planner.proofs.Shown.{shown-legs, shown-buses, shown-once, shown-all}

module _ {S : Type 0} (board : Board S) where
  abbrev count : ℕ
  count = board.network.table.buses

  abbrev ms : List Message
  ms = vec_items board.network.table.messages

  abbrev rs : List Ranked
  rs = vec_items board.walk.ranked

  -- what a board has whose walk has ended with found
  module _ (yes : (not (is_none ms) && is_complete board.walk.stage) ≡ true) where
    complete : board.walk.stage ≡ Complete
    complete = is_complete-means board.walk.stage (and_parts (not (is_none ms)) (is_complete board.walk.stage) yes).1

    stood : stands count ms rs Complete ≡ true
    stood = subst (λ s. stands count ms rs s ≡ true) complete board.walks

    pub legs_of : are_legs ms rs ≡ true
    legs_of = shown-legs count ms rs stood

    pub once_of : walk.distinct (map leg_of_rank rs) ≡ true
    once_of = shown-once count ms rs stood

    -- a leg that the board has is ranked
    pub ranked-of : (bus n : ℕ) → 1 ≤ bus → bus ≤ count → is_some (leg_from bus (message_of ms n)) ≡ true →
        is_some (walk.stored (ranked_of rs) (leg_at bus n)) ≡ true
    ranked-of bus n low high on =
        let here : has (leg_at bus n) (net_legs ms bus) ≡ true = has-leg_from ms bus n board.network.table.rises ∙ on in
        shown-all count ms rs stood (leg_at bus n) (any_among ms (leg_at bus n) (bus_numbers count) (numbers-among bus 1 count low (omega arith)) here)

  module _ (f : S → Meaning) where
    abbrev net : Net
    net = net_of (board_in f board)

    pub count_of : (not (is_none ms) && is_complete board.walk.stage) ≡ true → length (rows_of net (walk.orders_of net (ranked_of rs))) ≡ length rs
    count_of ended =
        length-rows_shown ms rs (legs_of ended) (map f board.network.rules.now) board.network.gateway
        (ap (λ n. list_all (on_first n) rs) (length-rules_of f board.network) ∙ shown-buses count ms rs (stood ended))

    module _ (keeps : (s : S) → Keeps (f s)) where
      pub Sound-board_in : Sound (board_in f board)
      Sound-board_in =
          Sound-board_of f keeps board.network.rules.now board.network.gateway ms (omega (arith, board.network.ruled, board.network.table.few)) board.network.table.rises
          (ap (λ n. list_all (on_board n) ms) board.network.ruled ∙ board.network.table.on_buses)

      pub found_of : (not (is_none ms) && is_complete board.walk.stage) ≡ true → found_orders (standing f board) ≡ Some (walk.orders_of net (ranked_of rs))
      found_of ended =
          found_orders-found (board_in f board) Sound-board_in rs board.walk.stage ended
          (placed_at-board (map f board.network.rules.now) board.network.gateway ms count (length-rules_of f board.network) (walk.complete (ranked_of rs)) ∙ stood ended)
