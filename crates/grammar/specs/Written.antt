-- A board written as a sheet, and which boards a sheet can hold.
use Rattle.std.specs.Prelude.{ℕ, suc, ◌+◌, Bool, true, cond, ◌&&◌, List, [], ◌∷◌, ◌++◌, map, length, codes, decimal, ◌==◌}
use Rattle.std.specs.List.{list_all, flat_map, filter}
use Rattle.bus.specs.Numbered.{member}
use Rattle.bus.specs.Range.{inside}
use Rattle.bus.specs.declared.entry.Entry.{Entry}
use Rattle.boards.specs.Nets.{bus_numbers}
use Rattle.grammar.specs.Content.{Content}
use Rattle.grammar.specs.Lines.{all_pass, bus_totals, message_totals, gateway_times, bus_values, entry_values}
use Rattle.grammar.specs.Text.{lf, space, comma, hyphen}
use Rattle.grammar.specs.Words.{is_fd}
use Rattle.grammar.specs.declared.bus_line.BusLine.{BusLine}
use Rattle.grammar.specs.declared.kind.Kind.{Kind}
use Rattle.grammar.specs.declared.kind.Kind.TheVariants.{Can11, Can29, Fd11}

-- words with one separator between two
abbrev pub behind_first : ℕ → List (List ℕ) → List ℕ
behind_first separator [] = []
behind_first separator (w ∷ ws) = separator ∷ (w ++ behind_first separator ws)

abbrev pub between : ℕ → List (List ℕ) → List ℕ
between separator [] = []
between separator (w ∷ ws) = w ++ behind_first separator ws

-- a line of words
abbrev pub line_text : List (List ℕ) → List ℕ
line_text ws = between space ws ++ lf ∷ []

abbrev pub kind_text : Kind → List ℕ
kind_text Can11 = codes "can11"
kind_text Can29 = codes "can29"
kind_text Fd11 = codes "fd11"

abbrev pub bus_text : ℕ → BusLine → List ℕ
bus_text k b =
    line_text
    (codes "bus" ∷ decimal k ∷ kind_text b.kind ∷ decimal b.bit ∷ cond (is_fd b.kind) (decimal b.fast) (hyphen ∷ []) ∷ decimal b.bridge ∷ [])

-- the buses from bus k on
abbrev pub bus_texts : ℕ → List BusLine → List ℕ
bus_texts k [] = []
bus_texts k (b ∷ bs) = bus_text k b ++ bus_texts (suc k) bs

-- the destinations, by rising number
abbrev pub to_text : ℕ → List ℕ
to_text set = cond (set == 0) (hyphen ∷ []) (between comma (map (λ k. (48 + k) ∷ []) (filter (member set) (bus_numbers 8))))

abbrev pub entry_text : Entry → List ℕ
entry_text e =
    line_text
    (codes "msg" ∷ decimal e.number ∷ decimal e.source ∷ to_text e.destinations ∷ decimal e.payload ∷ decimal e.period
    ∷ decimal e.deadline ∷ decimal e.jitter ∷ [])

abbrev pub count_text : List ℕ → ℕ → List ℕ
count_text keyword n = line_text (keyword ∷ decimal n ∷ [])

unfoldable pub sheet_text : Content → List ℕ
sheet_text c =
    count_text (codes "buses") (length c.buses)
    ++ (count_text (codes "messages") (length c.entries)
    ++ (count_text (codes "gateway") c.gateway ++ (bus_texts 1 c.buses ++ flat_map entry_text c.entries)))

-- ---------------------------------------------------------------- lawful boards
-- values in their ranges; the data bit time is that of CAN FD alone
abbrev pub lawful_bus : BusLine → Bool
lawful_bus b = all_pass (bus_values b) && cond (is_fd b.kind) true (b.fast == 0)

-- each message can be entered after the earlier ones
abbrev pub lawful_entries : ℕ → List Entry → List Entry → Bool
lawful_entries count earlier [] = true
lawful_entries count earlier (e ∷ es) = all_pass (entry_values count earlier e) && lawful_entries count (earlier ++ e ∷ []) es

abbrev pub lawful : Content → Bool
lawful c =
    inside bus_totals (length c.buses)
    && (inside message_totals (length c.entries)
    && (inside gateway_times c.gateway && (list_all lawful_bus c.buses && lawful_entries (length c.buses) [] c.entries)))
