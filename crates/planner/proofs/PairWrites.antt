-- The turns of the loop that writes the rows of a message that crosses.
use Rattle.std.proofs.Common.{◌≡◌, ℕ, ◌+◌, ◌<◌, ◌≤◌, true, false, List, ◌∷◌, map, length, set, sym, ap, subst, arith}
use Rattle.std.proofs.lemmas.List.{length-map}
use Rattle.bus.specs.Numbered.{member}
use Rattle.bus.specs.declared.message.Message.{Message}
use Rattle.boards.specs.Nets.{destinations_of}
use Rattle.planner.specs.Spots.{Written}
use Rattle.planner.specs.declared.rows.Margin.{Margin}
use Rattle.planner.proofs.Destinations.{destinations_from, destinations_from-first, destinations_from-none, destinations_from-here, destinations_from-pass}
use Rattle.planner.proofs.Fronts.{Writing, Writing-none, Writing-more, Writing-done}

-- the rows from bus i on are still to come
pub record Pairs (row : ℕ → Margin) (m : Message) (before now : List Margin) (i n : ℕ) : Type 0 where
  pub left : Writing (map row (destinations_from m i)) (map row (destinations_of m)) before now n

pub Pairs-begin : (row : ℕ → Margin) (m : Message) (before : List Margin) → Pairs row m before before 1 0
Pairs-begin row m before =
    record { left = subst (λ l. Writing l (map row (destinations_of m)) before before 0) (sym (ap (map row) (destinations_from-first m))) (Writing-none (map row (destinations_of m)) before) }

module _ {row : ℕ → Margin} {m : Message} {before now : List Margin} {i n : ℕ} (w : Pairs row m before now i n) where
  Pairs-here : i ≤ 8 → true ≡ member m.destinations i → Writing (row i ∷ map row (destinations_from m (i + 1))) (map row (destinations_of m)) before now n
  Pairs-here h t = subst (λ l. Writing l (map row (destinations_of m)) before now n) (ap (map row) (destinations_from-here m i h t)) w.left

  -- there is room for one row more
  pub Pairs-room : i ≤ 8 → true ≡ member m.destinations i → n < length (destinations_of m)
  Pairs-room h t = omega (arith, (Pairs-here h t).left, length-map (destinations_of m) row)

  pub Pairs-written : i ≤ 8 → true ≡ member m.destinations i → n < length now → (v : Margin) → v ≡ row i → Pairs row m before (set now n v) (i + 1) (n + 1)
  Pairs-written h t within v e =
      subst (λ u. Pairs row m before (set now n u) (i + 1) (n + 1)) (sym e)
      (record { left = Writing-more (row i) (map row (destinations_from m (i + 1))) (map row (destinations_of m)) before now n within (Pairs-here h t) })

  pub Pairs-passed : i ≤ 8 → false ≡ member m.destinations i → Pairs row m before now (i + 1) n
  Pairs-passed h t = record { left = subst (λ l. Writing l (map row (destinations_of m)) before now n) (ap (map row) (destinations_from-pass m i h t)) w.left }

  pub Pairs-end : 8 < i → Written (map row (destinations_of m)) before now n
  Pairs-end h =
      Writing-done (map row (destinations_of m)) before now n
      (subst (λ l. Writing l (map row (destinations_of m)) before now n) (ap (map row) (destinations_from-none m i h)) w.left)
