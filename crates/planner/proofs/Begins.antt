-- The walk of a board with messages makes at least one try: it has not ended at its start.
use Rattle.std.proofs.Common.{◌≡◌, ℕ, ◌^◌, ◌≤◌, true, false, cond, ltb, leb, List, [], ◌∷◌, ◌++◌, map, length, Some, None, sym, refl, ap, ◌∙◌, arith}
use Rattle.std.proofs.lemmas.Bool.{false≢true, eq-eqb, leb-true, and_parts, or_left}
use Rattle.std.specs.Option.{option_to_list}
use Rattle.std.specs.List.{list_all}
use Rattle.bus.specs.Legs.{legs_on}
use Rattle.bus.specs.Numbered.{member}
use Rattle.bus.specs.declared.message.Message.{Message}
use Rattle.search.specs.Net.{Leg, same, Net, has, less, has_any, Delays}
use Rattle.search.specs.Walk.{Walked, put, fit, ready, candidates, test_all, after, under, walk_bus, walk_from, walk}
use Rattle.search.proofs.Counts.{candidates-count}
use Rattle.search.proofs.Legs.{same-itself}
use Rattle.search.proofs.Lists.{Among}
use Rattle.boards.specs.Boards.{Board, bus_count, on_board, Sound}
use Rattle.boards.specs.Nets.{net_leg, net_legs, bus_numbers, source_leg, net_of}
use Rattle.boards.proofs.Buses.{any_among}
use Rattle.boards.proofs.Elements.{numbers-among}
use Rattle.planner.specs.Refusing.{is_none}

some-tried : (fits : Leg → _) (ready : Leg → _) (above : Leg → ℕ → Walked) (cs : List Leg) → 1 ≤ length cs → 1 ≤ (test_all fits ready above cs).tries
some-tried fits ready above [] h = absurd (omega arith)
some-tried fits ready above (c ∷ cs) h = omega arith

-- a walk over buses of which one has a leg
walk-tests : (net : Net) (ls : List (List Leg)) (p : Delays) (x : Leg) → has_any x ls ≡ true → 1 ≤ (walk_from net ls p).tries
walk-tests net [] p x h = absurd (false≢true h)
walk-tests net ([] ∷ ls) p x h = walk-tests net ls p x h
walk-tests net ((y ∷ l) ∷ ls) p x h =
    some-tried (fit net p (y ∷ l)) (ready net p) (λ c d. after (under c) (walk_bus net (length l) (walk_from net ls) (put p c (Some d)) (less c (y ∷ l))))
    (candidates net p (y ∷ l)) (omega (arith, candidates-count net p (y ∷ l)))

-- the source leg of the first message
first-leg : (m : Message) (ms : List Message) → has (source_leg m) (net_legs (m ∷ ms) m.source) ≡ true
first-leg m ms =
    ap (λ t. has (source_leg m) (map (net_leg m.source) (option_to_list (cond t (Some (record { message = m; source = true })) (cond (member m.destinations m.source) (Some (record { message = m; source = false })) None)) ++ legs_on ms m.source)))
    (eq-eqb m.source m.source refl)
    ∙ or_left (same (source_leg m) (source_leg m)) _ (same-itself (source_leg m))

source_on : (n : ℕ) (m : Message) (ms : List Message) → list_all (on_board n) (m ∷ ms) ≡ true → Among m.source (bus_numbers n)
source_on n m ms h =
    let on = (and_parts (on_board n m) (list_all (on_board n) ms) h).0 in
    let low : m.source ≤ n = leb-true m.source n (and_parts (leb m.source n) (ltb m.destinations (2 ^ n)) on).0 in
    numbers-among m.source 1 n m.source_range.0 (omega arith)

-- a sound board with messages
pub not_ended : (b : Board) → Sound b → is_none b.messages ≡ false → (walk (net_of b)).tries ≡ 0 → ⊥
not_ended b sound some none = go b.messages refl sound.messages.on_buses some
  where
    go : (ms : List Message) → b.messages ≡ ms → list_all (on_board (bus_count b)) b.messages ≡ true → is_none b.messages ≡ false → ⊥
    go [] e on some = false≢true (sym some ∙ ap is_none e)
    go (m ∷ ms) e on some =
        let n = bus_count b in
        let among : Among m.source (bus_numbers n) = source_on n m ms (ap (list_all (on_board n)) (sym e) ∙ on) in
        let here : has (source_leg m) (net_legs b.messages m.source) ≡ true = ap (λ l. has (source_leg m) (net_legs l m.source)) e ∙ first-leg m ms in
        let any : has_any (source_leg m) (net_of b).buses ≡ true = any_among b.messages (source_leg m) (bus_numbers n) among here in
        omega (arith, walk-tests (net_of b) (net_of b).buses (λ _. None) (source_leg m) any)
