-- A margin is below zero exactly where the delay is late; and so all is met exactly where none is below zero.
use Rattle.std.proofs.Common.{◌≡◌, ℕ, Bool, true, not, ◌&&◌, List, [], ◌∷◌, ◌++◌, map, is_some, Some, None, Option, sym, refl, ap, ◌∙◌, inl, inr, arith}
use Rattle.std.proofs.Math.Bool.{and_comm, and_assoc}
use Rattle.std.specs.List.{list_all, flat_map, filter, AllByRecursion}
use Rattle.std.proofs.lemmas.Int.{ints}
use Rattle.std.proofs.lemmas.Bool.{cases_Bool, cond-true, cond-false}
use Rattle.std.proofs.lemmas.Bool.Decides.{nat_tests}
use Rattle.std.proofs.lemmas.List.Folds.{list_all-append}
use Rattle.bus.specs.declared.message.Message.{Message}
use Rattle.search.specs.Deadlines.{delays, in_time, met}
use Rattle.search.specs.Net.{Leg, Net}
use Rattle.search.proofs.Lists.{Among}
use Rattle.boards.specs.Boards.{Board, rising_messages, Keeps}
use Rattle.boards.specs.Nets.{leg_at, source_leg, is_local, destinations_of, pair_to, pairs_of, net_of}
use Rattle.boards.proofs.BoardLaws.{local_no_pairs}
use Rattle.planner.specs.Checks.{across, margin_row, margins_of, margin_rows, all_met, late, below_zero, MarginsTell, MetWhereNoneIsBelow}
use Rattle.planner.specs.Spots.{AtMost, pair_row}
use Rattle.planner.specs.declared.rows.Margin.{Margin}
use Rattle.planner.proofs.Rising.{message_of-among}
use Rattle.planner.proofs.OwnDelays.{own_delay}

pub margins_tell : MarginsTell
margins_tell m k None = refl
margins_tell m k (Some d) = grind (arith, ints, nat_tests)

abbrev none_below : List Margin → Bool
none_below = list_all (λ (r : Margin). not (below_zero r))

-- ---------------------------------------------------------------- one row
margin_row-local : (m : Message) (d : Option ℕ) → AtMost m.deadline d → not (below_zero (margin_row m 0 d)) ≡ is_some d
margin_row-local m d h = ap not (margins_tell m 0 d) ∙ go d h
  where
    go : (d : Option ℕ) → AtMost m.deadline d → not (late m.deadline d) ≡ is_some d
    go None h = refl
    go (Some d) h = grind (arith, nat_tests)

margin_row-pair : (m : Message) (k gateway : ℕ) (a b : Option ℕ) → not (below_zero (margin_row m k (across gateway a b))) ≡ in_time gateway m.deadline a b
margin_row-pair m k gateway a b = ap not (margins_tell m k (across gateway a b)) ∙ go a b
  where
    go : (a b : Option ℕ) → not (late m.deadline (across gateway a b)) ≡ in_time gateway m.deadline a b
    go None b = refl
    go (Some a) None = refl
    go (Some a) (Some b) = grind (arith, nat_tests)

-- ---------------------------------------------------------------- the rows of a message
module _ (net : Net) (os : List (List Leg)) where
  pairs-met : (m : Message) (ks : List ℕ) → none_below (map (pair_row net os m) ks) ≡ list_all (met net (delays net os)) (map (pair_to m) ks)
  pairs-met m [] = refl
  pairs-met m (k ∷ ks) =
      ap (λ t. t && none_below (map (pair_row net os m) ks)) (margin_row-pair m k net.gateway (delays net os (source_leg m)) (delays net os (leg_at k m.number)))
      ∙ ap (λ t. met net (delays net os) (pair_to m k) && t) (pairs-met m ks)

  -- every delay of the messages is within its deadline
  abbrev Within : List Message → Type 0
  Within ms = (m : Message) → Among m ms → (bus : ℕ) → AtMost m.deadline (delays net os (leg_at bus m.number))

  abbrev locals_met : List Message → Bool
  locals_met ms = list_all (λ x. is_some (delays net os x)) (map source_leg (filter is_local ms))

  abbrev pairs_met : List Message → Bool
  pairs_met ms = list_all (met net (delays net os)) (flat_map pairs_of ms)

  all-met : (ms : List Message) → Within ms → none_below (flat_map (margins_of net os) ms) ≡ (locals_met ms && pairs_met ms)
  all-met [] h = refl
  all-met (m ∷ ms) h =
      let rest = all-met ms (λ n a. h n (inr a)) in
      let split = list_all-append (λ (r : Margin). not (below_zero r)) (margins_of net os m) (flat_map (margins_of net os) ms) in
      let pairs = list_all-append (met net (delays net os)) (pairs_of m) (flat_map pairs_of ms) in
      elim (cases_Bool (is_local m)) [
        | inl t ↦
            let own : none_below (margins_of net os m) ≡ is_some (delays net os (source_leg m)) =
            ap none_below (cond-true (is_local m) _ _ t) ∙ grind (arith, margin_row-local m (delays net os (source_leg m)) (h m (inl refl) m.source))
            in
            let none : pairs_met (m ∷ ms) ≡ pairs_met ms = ap (λ l. list_all (met net (delays net os)) (l ++ flat_map pairs_of ms)) (local_no_pairs m t) in
            let here : locals_met (m ∷ ms) ≡ (is_some (delays net os (source_leg m)) && locals_met ms) =
            ap (λ l. list_all (λ x. is_some (delays net os x)) (map source_leg l)) (cond-true (is_local m) _ _ t)
            in
            split
            ∙ ap (λ u. u && none_below (flat_map (margins_of net os) ms)) own
            ∙ ap (λ u. is_some (delays net os (source_leg m)) && u) rest
            ∙ sym (and_assoc _ (locals_met ms) (pairs_met ms))
            ∙ sym (ap (λ u. u && pairs_met (m ∷ ms)) here ∙ ap (λ u. (is_some (delays net os (source_leg m)) && locals_met ms) && u) none)
        | inr t ↦
            let own_met = list_all (met net (delays net os)) (pairs_of m) in
            let own : none_below (margins_of net os m) ≡ own_met =
            ap none_below (cond-false (is_local m) _ _ t) ∙ pairs-met m (destinations_of m)
            in
            let here : locals_met (m ∷ ms) ≡ locals_met ms =
            ap (λ l. list_all (λ x. is_some (delays net os x)) (map source_leg l)) (cond-false (is_local m) _ _ t)
            in
            split
            ∙ ap (λ u. u && none_below (flat_map (margins_of net os) ms)) own
            ∙ ap (λ u. list_all (met net (delays net os)) (pairs_of m) && u) rest
            ∙ sym (and_assoc own_met (locals_met ms) (pairs_met ms))
            ∙ ap (λ u. u && pairs_met ms) (and_comm own_met (locals_met ms))
            ∙ and_assoc (locals_met ms) own_met (pairs_met ms)
            ∙ sym (ap (λ u. u && pairs_met (m ∷ ms)) here ∙ ap (λ u. locals_met ms && u) pairs)
      ]

-- ---------------------------------------------------------------- all
pub met-where_none_below : (b : Board) → AllByRecursion Keeps b.rules → rising_messages b.messages ≡ true → (os : List (List Leg)) →
    none_below (margin_rows b os) ≡ all_met (net_of b) os
met-where_none_below b keeps rise os =
    all-met (net_of b) os b.messages (λ m among bus. own_delay b keeps rise m (message_of-among b.messages m rise among) os bus)

pub met-where_none_is_below : MetWhereNoneIsBelow
met-where_none_is_below b sound os = met-where_none_below b sound.rules sound.messages.rise os
