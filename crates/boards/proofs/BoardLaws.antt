-- The theorems of the walk, for every board.
use Rattle.std.proofs.Common.{◌≡◌, Bool, true, false, cond, List, [], ◌∷◌, map, get_or, refl, ap, ◌∙◌, arith}
use Rattle.std.specs.List.{list_all, flat_map, filter, AllByRecursion}
use Rattle.std.proofs.lemmas.Bool.{eqb-true}
use Rattle.std.proofs.lemmas.List.Elements.{All-map, recursion_from_All}
use Rattle.bus.specs.Numbered.{member}
use Rattle.bus.specs.Rules.{Meaning}
use Rattle.bus.specs.declared.message.Message.{Message}
use Rattle.bus.proofs.Members.{member-none}
use Rattle.search.proofs.Found.{found-meets}
use Rattle.search.proofs.Dead.{none-meets}
use Rattle.search.proofs.Bound.{within-bound}
use Rattle.search.proofs.LocalBound.{within-local_bound}
use Rattle.boards.specs.Boards.{Board, board_of, bus_count, Keeps, Sound}
use Rattle.boards.specs.Nets.{bus_numbers, is_local, pair_to, pairs_of, net_of}
use Rattle.boards.specs.Laws.{TriesWithinLocalBound, WalkLawsHold, WalkLawsOver, LegsDistinct}
use Rattle.boards.proofs.Buses.{buses-distinct}
use Rattle.boards.proofs.Lawful.{board-lawful}

-- ---------------------------------------------------------------- where no message crosses
kept-none : {X : Type 0} (f : X → Bool) → ((x : X) → f x ≡ false) → (xs : List X) → filter f xs ≡ []
kept-none f h [] = refl
kept-none f h (x ∷ xs) = ap (λ t. cond t (x ∷ filter f xs) (filter f xs)) (h x) ∙ kept-none f h xs

pub local_no_pairs : (m : Message) → is_local m ≡ true → pairs_of m ≡ []
local_no_pairs m h =
    ap (λ bits. map (pair_to m) (filter (member bits) (bus_numbers 8))) (eqb-true m.destinations 0 h)
    ∙ ap (map (pair_to m)) (kept-none (member 0) member-none (bus_numbers 8))

no_pairs : (ms : List Message) → list_all is_local ms ≡ true → flat_map pairs_of ms ≡ []
no_pairs [] h = refl
no_pairs (m ∷ ms) h = grind (arith, local_no_pairs m, no_pairs ms)

tries-within_local_bound : (b : Board) → TriesWithinLocalBound b
tries-within_local_bound b h = within-local_bound (net_of b) (no_pairs b.messages h)

-- ---------------------------------------------------------------- every board
pub walk_laws-hold : WalkLawsHold
walk_laws-hold b sound =
    record {
      found = found-meets (net_of b) (board-lawful b sound);
      none = none-meets (net_of b) (board-lawful b sound);
      tries = within-bound (net_of b);
      local_tries = tries-within_local_bound b;
    }

pub legs_distinct : LegsDistinct
legs_distinct b sound = buses-distinct b.messages sound.messages.rise (bus_numbers (bus_count b))

-- ---------------------------------------------------------------- rules that are lent
pub keeps-each : {S : Type 0} (f : S → Meaning) → ((s : S) → Keeps (f s)) → (xs : List S) → AllByRecursion Keeps (map f xs)
keeps-each f keeps xs = recursion_from_All Keeps (map f xs) (All-map Keeps f xs (λ k d within. keeps (get_or xs k d)))

pub walk_laws-over : {S : Type 0} (f : S → Meaning) → ((s : S) → Keeps (f s)) → (xs : List S) → WalkLawsOver (map f xs)
walk_laws-over f keeps xs gateway ms few belong =
    let b = board_of (map f xs) gateway ms in
    let sound : Sound b = record { rules = keeps-each f keeps xs; few = few; messages = belong } in
    (sound, walk_laws-hold b sound)
