-- The first open leg above a number whose readiness is as asked, as a search through the messages.
use Rattle.std.proofs.Common.{◌≡◌, ℕ, Bool, true, false, cond, not, ◌&&◌, ltb, List, [], ◌∷◌, Some, sym, refl, ap, ◌∙◌, inl, inr, arith}
use Rattle.std.specs.List.{find, flat_map}
use Rattle.std.specs.Option.{option_map}
use Rattle.std.proofs.lemmas.Bool.Decides.{nat_tests}
use Rattle.bus.specs.declared.message.Message.{Message}
use Rattle.search.specs.Net.{Leg}
use Rattle.search.specs.Stored.{stored, first_by}
use Rattle.search.proofs.Lists.{Among}
use Rattle.boards.specs.Boards.{rising_messages}
use Rattle.boards.specs.Nets.{leg_at, pairs_of}
use Rattle.planner.specs.Storage.{ranked_of, open_legs, is_open, ready_is, above, next_such}
use Rattle.planner.specs.declared.ranked.Ranked.{Ranked}
use Rattle.planner.proofs.Rising.{message_of-among}
use Rattle.planner.proofs.Mapped.{option_map-cond}
use Rattle.planner.proofs.OneMessage.{open_legs-first}
use Rattle.planner.proofs.OwnReady.{partnered-own}

-- one more leg, where there is one
first_by-more : (f : Leg → Bool) (n : ℕ) (t : Bool) (x : Leg) (l : List Leg) →
    first_by f (above n (cond t (x ∷ l) l)) ≡ cond (ltb n x.message && (t && f x)) (Some x) (first_by f (above n l))
first_by-more f n true x l = grind (arith, nat_tests)
first_by-more f n false x l = grind (arith, nat_tests)

module _ (rs : List Ranked) (bus after : ℕ) where
  -- where a test of each leg is one of its message
  first_by-finds : (f : Leg → Bool) (own : Message → Bool) (ms : List Message) → ((m : Message) → Among m ms → f (leg_at bus m.number) ≡ own m) →
      option_map (λ (m : Message). leg_at bus m.number) (find (λ (m : Message). ltb after m.number && (is_open rs bus m && own m)) ms)
      ≡ first_by f (above after (open_legs ms rs bus))
  first_by-finds f own [] same = refl
  first_by-finds f own (m ∷ ms) same =
      let x = leg_at bus m.number in
      option_map-cond (λ (m : Message). leg_at bus m.number) (ltb after m.number && (is_open rs bus m && own m)) m _
      ∙ ap (cond (ltb after m.number && (is_open rs bus m && own m)) (Some x)) (first_by-finds f own ms (λ n a. same n (inr a)))
      ∙ ap (λ t. cond (ltb after m.number && (is_open rs bus m && t)) (Some x) (first_by f (above after (open_legs ms rs bus)))) (sym (same m (inl refl)))
      ∙ sym (first_by-more f after (is_open rs bus m) x (open_legs ms rs bus))
      ∙ ap (λ l. first_by f (above after l)) (sym (open_legs-first rs bus m ms))

  pub next_such-finds : (b : Bool) (ms : List Message) → rising_messages ms ≡ true →
      option_map (λ (m : Message). leg_at bus m.number)
      (find (λ (m : Message). ltb after m.number && (is_open rs bus m && ready_is b rs (pairs_of m) (leg_at bus m.number))) ms)
      ≡ next_such ms rs bus after b
  next_such-finds b ms rises =
      first_by-finds (ready_is b rs (flat_map pairs_of ms)) (λ m. ready_is b rs (pairs_of m) (leg_at bus m.number)) ms
      (λ m a. ap (λ t. cond b t (not t)) (partnered-own (stored (ranked_of rs)) bus ms rises m (message_of-among ms m rises a)))
