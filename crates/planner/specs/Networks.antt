-- A network as the program stores it, as the mathematics has it. f is what a rule means.
use Rattle.std.specs.Prelude.{List, map, vec_items}
use Rattle.bus.specs.Rules.{Meaning}
use Rattle.search.specs.Net.{Net}
use Rattle.boards.specs.Boards.{Board, board_of}
use Rattle.boards.specs.Nets.{net_of}
use Rattle.planner.specs.declared.network.Network.{Network}

-- its rules as functions
abbrev pub rules_of : {S : Type 0} → (S → Meaning) → Network S → List Meaning
rules_of f n = map f n.rules.now

-- its rules as functions, its gateway time and its messages
abbrev pub board_on : {S : Type 0} → (S → Meaning) → Network S → Board
board_on f n = board_of (map f n.rules.now) n.gateway (vec_items n.table.messages)

abbrev pub net_on : {S : Type 0} → (S → Meaning) → Network S → Net
net_on f n = net_of (board_on f n)
