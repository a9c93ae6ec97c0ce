-- The place above the ranked legs: its delays are those stored, and its open legs and the legs after them are not ranked.
use Rattle.std.proofs.Common.{◌≡◌, ℕ, true, List, [], ◌∷◌, Some, None, Option, sym, refl, ap, ◌∙◌, arith}
use Rattle.std.specs.List.{AllByRecursion}
use Rattle.std.proofs.ByRecursion.{All-weaker}
use Rattle.std.proofs.lemmas.Bool.{or_left}
use Rattle.std.proofs.lemmas.Bool.Decides.{nat_tests}
use Rattle.search.specs.Net.{Leg, Net, has, has_any, less, Delays}
use Rattle.search.specs.Walk.{put, fit}
use Rattle.search.specs.Laws.{Apart}
use Rattle.search.specs.Machine.{Frame, bus}
use Rattle.search.specs.Stored.{Ranked, Place, advance, first_place, place_of, Stage, testing, complete, exhausted, gets, kept, kept_at, placed, placed_at, stored}
use Rattle.search.proofs.Legs.{same-itself, same-tells}
use Rattle.search.proofs.Open.{Open, open-ranked, open-next_bus}

-- what passing over a bus without open legs keeps holds of the place that is come to
pub advance-keeps : (P : List Frame → Delays → List Leg → List (List Leg) → Type 0) →
    ((fs : List Frame) (p : Delays) (l : List Leg) (ls : List (List Leg)) → P fs p [] (l ∷ ls) → P (bus ∷ fs) p l ls) →
    (fs : List Frame) (p : Delays) (l : List Leg) (ls : List (List Leg)) → P fs p l ls →
    let at = advance fs p l ls in
    P at.frames at.delays at.open' at.later
advance-keeps P on fs p [] [] h = h
advance-keeps P on fs p [] (l ∷ ls) h = advance-keeps P on (bus ∷ fs) p l ls (on fs p l ls h)
advance-keeps P on fs p (y ∷ l) ls h = h

-- ---------------------------------------------------------------- its delays
advance-delays : (fs : List Frame) (p : Delays) (l : List Leg) (ls : List (List Leg)) → (advance fs p l ls).delays ≡ p
advance-delays fs p l ls = advance-keeps (λ _ q _ _. q ≡ p) (λ fs q l ls e. e) fs p l ls refl

first-delays : (ls : List (List Leg)) → (first_place ls).delays ≡ (λ _. None)
first-delays [] = refl
first-delays (l ∷ ls) = advance-delays [] (λ _. None) l ls

pub place-delays : (net : Net) (rs : List Ranked) → (place_of net rs).delays ≡ stored rs
place-delays net [] = first-delays net.buses
place-delays net (r ∷ rs) =
    let at = place_of net rs in
    advance-delays _ (put at.delays r.leg (Some r.delay)) (less r.leg at.open') at.later
    ∙ ap (λ (p : Delays). put p r.leg (Some r.delay)) (place-delays net rs)

-- ---------------------------------------------------------------- its open legs
-- where no leg is open, no bus is left
advance-ends : (fs : List Frame) (p : Delays) (l : List Leg) (ls : List (List Leg)) → (advance fs p l ls).open' ≡ [] →
    (advance fs p l ls).later ≡ []
advance-ends fs p [] [] e = refl
advance-ends fs p [] (l ∷ ls) e = advance-ends (bus ∷ fs) p l ls e
advance-ends fs p (y ∷ l) ls e = grind arith

first_ends : (ls : List (List Leg)) → (first_place ls).open' ≡ [] → (first_place ls).later ≡ []
first_ends [] e = refl
first_ends (l ∷ ls) e = advance-ends [] (λ _. None) l ls e

pub place-ends : (net : Net) (rs : List Ranked) → (place_of net rs).open' ≡ [] → (place_of net rs).later ≡ []
place-ends net [] e = first_ends net.buses e
place-ends net (r ∷ rs) e = advance-ends _ _ (less r.leg (place_of net rs).open') (place_of net rs).later e

abbrev OpenAt : Place → Type 0
OpenAt at = Open at.delays (at.open' ∷ at.later)

open-advance : (fs : List Frame) (p : Delays) (l : List Leg) (ls : List (List Leg)) → Open p (l ∷ ls) → OpenAt (advance fs p l ls)
open-advance = advance-keeps (λ _ p l ls. Open p (l ∷ ls)) (λ fs p l ls. open-next_bus p (l ∷ ls))

open-first : (ls : List (List Leg)) → Apart ls → OpenAt (first_place ls)
open-first [] a = record { apart = ((λ y h. refl), tt); none = λ y h. refl }
open-first (l ∷ ls) a = open-advance [] (λ _. None) l ls (record { apart = a; none = λ y h. refl })

-- the parts of what is kept of a ranked leg
gets-is : (o : Option ℕ) (d : ℕ) → gets o d ≡ true → o ≡ Some d
gets-is None d h = grind arith
gets-is (Some e) d h = grind (arith, nat_tests)

module _ (net : Net) (r : Ranked) (rs : List Ranked) (k : kept net (r ∷ rs) ≡ true) where
  pub kept-below : kept net rs ≡ true
  kept-below = grind arith

  pub did_fit : fit net (place_of net rs).delays (place_of net rs).open' r.leg ≡ Some r.delay
  did_fit = gets-is _ r.delay (grind arith)

pub kept-placed : (net : Net) (rs : List Ranked) → kept net rs ≡ true → placed net rs ≡ true
kept-placed net [] k = refl
kept-placed net (r ∷ rs) k = grind (arith, kept-placed net rs)

pub kept-placed_at : (net : Net) (s : Stage) → kept_at net s ≡ true → placed_at net s ≡ true
kept-placed_at net (testing rs c) h = grind (arith, kept-placed net rs)
kept-placed_at net (complete rs) h = grind (arith, kept-placed net rs)
kept-placed_at net exhausted h = refl

-- the parts of what is placed
module _ (net : Net) (r : Ranked) (rs : List Ranked) (k : placed net (r ∷ rs) ≡ true) where
  pub was_open : has r.leg (place_of net rs).open' ≡ true
  was_open = grind arith

  pub placed_below : placed net rs ≡ true
  placed_below = grind arith

pub open_at : (net : Net) → Apart net.buses → (rs : List Ranked) → placed net rs ≡ true → OpenAt (place_of net rs)
open_at net a [] k = open-first net.buses a
open_at net a (r ∷ rs) k =
    let at = place_of net rs in
    let rest = open_at net a rs (placed_below net r rs k) in
    open-advance _ (put at.delays r.leg (Some r.delay)) (less r.leg at.open') at.later
    (open-ranked at.delays r.leg (Some r.delay) at.open' at.later rest (was_open net r rs k))

-- ---------------------------------------------------------------- each delay is found
pub was_unranked : (net : Net) → Apart net.buses → (r : Ranked) (rs : List Ranked) → placed net (r ∷ rs) ≡ true → stored rs r.leg ≡ None
was_unranked net a r rs k =
    let at = place_of net rs in
    ap (λ (p : Delays). p r.leg) (sym (place-delays net rs))
    ∙ (open_at net a rs (placed_below net r rs k)).none r.leg
    (or_left (has r.leg at.open') (has_any r.leg at.later) (was_open net r rs k))

stored-before : (r s : Ranked) (rs : List Ranked) → stored rs r.leg ≡ None → stored rs s.leg ≡ Some s.delay →
    stored (r ∷ rs) s.leg ≡ Some s.delay
stored-before r s rs n e = grind (arith, same-tells r.leg s.leg)

pub stored-each : (net : Net) → Apart net.buses → (rs : List Ranked) → placed net rs ≡ true →
    AllByRecursion (λ r. stored rs r.leg ≡ Some r.delay) rs
stored-each net a [] k = tt
stored-each net a (r ∷ rs) k =
    let none = was_unranked net a r rs k in (
      grind (arith, same-itself r.leg),
      All-weaker (λ s. stored rs s.leg ≡ Some s.delay) (λ s. stored (r ∷ rs) s.leg ≡ Some s.delay)
          (λ s e. stored-before r s rs none e) rs (stored-each net a rs (placed_below net r rs k)),
    )
