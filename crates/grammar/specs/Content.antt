-- What the lines of a sheet say: the buses, the gateway time and the messages of a board.
use Rattle.std.specs.Prelude.{ℕ, ◌+◌, ◌-◌, List, [], map, Some, None, Option}
use Rattle.bus.specs.declared.entry.Entry.{Entry}
use Rattle.boards.specs.Nets.{numbers_from}
use Rattle.grammar.specs.Lines.{count_in, bus_line_in, entry_in}
use Rattle.grammar.specs.Text.{TextLine, words, line_at}
use Rattle.grammar.specs.declared.bus_line.BusLine.{BusLine}

pub record Content : Type 0 where
  -- the first is bus 1
  pub buses : List BusLine
  pub gateway : ℕ
  -- in the order of their lines
  pub entries : List Entry

-- the words of a line; none where it is missing
abbrev pub words_in : Option TextLine → List (List ℕ)
words_in None = []
words_in (Some l) = words l.text

abbrev pub words_of : List TextLine → ℕ → List (List ℕ)
words_of ls i = words_in (line_at ls i)

-- how many buses and messages the contents announce, and the gateway time
abbrev pub bus_total : List TextLine → ℕ
bus_total ls = count_in (words_of ls 1)

abbrev pub message_total : List TextLine → ℕ
message_total ls = count_in (words_of ls 2)

abbrev pub gateway_time : List TextLine → ℕ
gateway_time ls = count_in (words_of ls 3)

-- the buses stand behind the contents, and the messages behind the buses
abbrev pub first_message : List TextLine → ℕ
first_message ls = 4 + bus_total ls

abbrev pub last_wanted : List TextLine → ℕ
last_wanted ls = 3 + bus_total ls + message_total ls

abbrev pub entry_at : List TextLine → ℕ → Entry
entry_at ls i = entry_in (words_of ls i)

-- the messages of the lines before line i
abbrev pub earlier_than : List TextLine → ℕ → List Entry
earlier_than ls i = map (entry_at ls) (numbers_from (first_message ls) (i - first_message ls))

abbrev pub content_of : List TextLine → Content
content_of ls =
    record {
      buses = map (λ i. bus_line_in (words_of ls i)) (numbers_from 4 (bus_total ls));
      gateway = gateway_time ls;
      entries = map (entry_at ls) (numbers_from (first_message ls) (message_total ls));
    }
