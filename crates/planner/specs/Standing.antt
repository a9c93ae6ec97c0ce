-- Where a board stands: what is on it, and what is still to come of its walk.
use Rattle.std.specs.Prelude.{cond, List, Some, None, Option, ◌==◌}
use Rattle.search.specs.Net.{Leg}
use Rattle.search.specs.Walk.{Walked, walk}
use Rattle.boards.specs.Boards.{Board}
use Rattle.boards.specs.Nets.{net_of}
use Rattle.planner.specs.Refusing.{is_none}
use Rattle.planner.specs.declared.progress.Progress.{Progress}
use Rattle.planner.specs.declared.progress.Progress.TheVariants.{Found, Nothing, GoingOn}

pub record Standing : Type 0 where
  pub board : Board
  -- the tries still to come until the walk ends, and how it ends
  pub left : Walked

-- the walk at its start
abbrev pub fresh : Board → Standing
fresh b = record { board = b; left = walk (net_of b) }

abbrev pub end_of : Option (List (List Leg)) → Progress
end_of None = Nothing
end_of (Some os) = Found

abbrev pub progress_of : Walked → Progress
progress_of w = cond (w.tries == 0) (end_of w.outcome) GoingOn

-- the orders with which the walk has ended; a board without messages has no walk that could end
abbrev pub found_orders : Standing → Option (List (List Leg))
found_orders s = cond (is_none s.board.messages) None (cond (s.left.tries == 0) s.left.outcome None)
