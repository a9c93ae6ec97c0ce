-- A set of the open legs of a bus but for one, as the numbers of messages are put into it.
use Rattle.std.proofs.Common.{◌≡◌, ℕ, Bool, true, false, cond, not, ◌&&◌, ◌||◌, eqb, List, [], ◌∷◌, ◌++◌, Option, filter, refl, sym, ap, ◌∙◌, arith}
use denote.Param.Members.{Mut}
use Rattle.std.specs.Fn.{Called}
use Rattle.std.specs.Iterator.{Drains}
use Rattle.std.specs.List.{list_any, FoldsTo}
use Rattle.std.proofs.lemmas.Fn.{fold_over}
use Rattle.std.proofs.lemmas.Iterator.{YieldsList}
use Rattle.std.proofs.lemmas.Bool.Decides.{nat_tests}
use Rattle.bus.specs.Numbered.{member}
use Rattle.bus.specs.Range.{inside, numbers}
use Rattle.bus.specs.declared.leg_set.LegSet.{LegSet}
use Rattle.bus.specs.declared.message.Message.{Message}
use Rattle.search.specs.Net.{Leg, has, less}
use Rattle.boards.specs.Nets.{leg_at}
use Rattle.planner.specs.Storage.{open_legs, is_open}
use Rattle.planner.specs.declared.ranked.Ranked.{Ranked}
use Rattle.planner.proofs.MessageLegs.{inside-number}
use Rattle.planner.proofs.OneMessage.{open_legs-first}
use Rattle.planner.proofs.Same.{same-on}

-- the message is another than n, and its leg on the bus is open
abbrev pub is_other : List Ranked → ℕ → ℕ → Message → Bool
is_other rs bus n m = not (eqb m.number n) && is_open rs bus m

-- the set has the numbers of the messages, and no others
abbrev pub Gathers : List Message → LegSet → Type 0
Gathers ms set = (k : ℕ) → member set.bits k ≡ list_any (λ m. eqb k m.number) ms

number-last : (k : ℕ) (ms : List Message) (m : Message) → list_any (λ m. eqb k m.number) (ms ++ (m ∷ [])) ≡ (eqb k m.number || list_any (λ m. eqb k m.number) ms)
number-last k [] m = refl
number-last k (x ∷ ms) m = grind (arith, number-last k ms m)

-- what a fold gathers that puts in each number of a chain of messages
pub gathers_from_fold : {S A F : Type 0} {steps : S → Option A → S → Type 0} {v : A → Message} {s : S} {all : List Message} (g : Mut F (LegSet × (A × Unit {0})) LegSet) (f : F) (init r : LegSet) →
    (xs : List A) × (q : F) × Drains steps s xs × FoldsTo {P = F × LegSet} (λ a x b. Called g a.0 (a.1, (x, tt)) b.1 b.0) (f, init) xs (q, r) →
    YieldsList steps v s all → Gathers [] init →
    ((x : A) (a b : LegSet) (q : F) → Called g f (a, (x, tt)) b q →
    (q ≡ f) × ((k : ℕ) → member b.bits k ≡ ((inside numbers (v x).number && eqb k (v x).number) || member a.bits k))) →
    Gathers all r
gathers_from_fold {steps = steps} {v} {s} {all} g f init r ran chain none put =
    fold_over steps v g Gathers f
    (λ ms a x b q so call. (λ k. grind (arith, (put x a b q call).1 k, so k, number-last k ms (v x), inside-number (v x)), (put x a b q call).0))
    s all init r chain.runs none ran

module _ (rs : List Ranked) (bus n k : ℕ) where
  has-less_cond : (j : ℕ) (t : Bool) (l : List Leg) →
      has (leg_at bus k) (less (leg_at bus n) (cond t (leg_at bus j ∷ l) l))
      ≡ (((not (eqb j n) && t) && eqb k j) || has (leg_at bus k) (less (leg_at bus n) l))
  has-less_cond j true l = grind (arith, nat_tests, same-on bus n j, same-on bus k j)
  has-less_cond j false l = grind (arith, nat_tests)

  number_cond : (t : Bool) (m : Message) (ms : List Message) →
      list_any (λ m. eqb k m.number) (cond t (m ∷ ms) ms) ≡ ((t && eqb k m.number) || list_any (λ m. eqb k m.number) ms)
  number_cond true m ms = refl
  number_cond false m ms = refl

  -- the numbers of the others are those of the open legs but for that of n
  pub others-open : (ms : List Message) →
      list_any (λ m. eqb k m.number) (filter (is_other rs bus n) ms) ≡ has (leg_at bus k) (less (leg_at bus n) (open_legs ms rs bus))
  others-open [] = refl
  others-open (m ∷ ms) =
      number_cond (is_other rs bus n m) m (filter (is_other rs bus n) ms)
      ∙ ap (λ b. (is_other rs bus n m && eqb k m.number) || b) (others-open ms)
      ∙ sym (has-less_cond m.number (is_open rs bus m) (open_legs ms rs bus))
      ∙ sym (ap (λ l. has (leg_at bus k) (less (leg_at bus n) l)) (open_legs-first rs bus m ms))
