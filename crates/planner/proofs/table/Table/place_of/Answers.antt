use Rattle.std.proofs.Common.{rules, tests, ◌≡◌, ℕ, ◌≤◌, true, false, ltb, List, [], ◌∷◌, length, sym, refl, ap, ◌∙◌, arith}
use Rattle.std.specs.List.{prefix_len}
use Rattle.std.specs.List.Sorted.{IsPartitionPoint}
use Rattle.std.proofs.lemmas.List.Sorted.{IsPartitionPoint-from_clause, IsPartitionedBy-ltb}
use Rattle.std.proofs.lemmas.List.Sums.{prefix_len_is}
use Rattle.bus.specs.declared.message.Message.{Message}
use Rattle.planner.specs.Messages.{place_of}
use Rattle.planner.proofs.Rising.{rising_messages-by_number}
use Rattle.planner.proofs.table.Table.place_of.Goals as goal

-- as many stand before the place as have smaller numbers at the front
before_place : (n : ℕ) (ms : List Message) → prefix_len (λ m. ltb m.number n) ms ≡ place_of ms n
before_place n [] = refl
before_place n (m ∷ ms) = grind (arith, before_place n ms)

place_is : (n : ℕ) (ms : List Message) (i : ℕ) → i ≤ length ms → IsPartitionPoint (λ m. ltb m.number n ≡ true) (λ m. ltb m.number n ≡ false) ms i →
    i ≡ place_of ms n
place_is n [] i within point = omega arith
place_is n (m ∷ ms) i within point =
    sym (prefix_len_is (λ m. ltb m.number n) (m ∷ ms) i m within (λ k l. point.0 k m (omega arith) l) (λ l. point.1 i m (omega arith) l))
    ∙ before_place n (m ∷ ms)

pub returns : goal.returns
returns c =
    let n = c.args.number in
    let ms = c.deref.result.now in
    let same : ms ≡ c.args.self.now.messages.items = c.deref.ensures.value in
    let sorted = IsPartitionedBy-ltb (λ (m : Message). m.number) ms n (rising_messages-by_number ms (rw same c.args.self.now.rises)) in
    let point = IsPartitionPoint-from_clause (λ m. ltb m.number n) ms c.partition_point.result c.partition_point.ensures.partitioned sorted
    (λ a r f k. search (rules, tests)) in
    place_is n ms c.partition_point.result c.partition_point.ensures.bound point ∙ ap (λ l. place_of l n) same
