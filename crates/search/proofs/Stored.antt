-- One try on what is stored is one step of the machine, and the first stage is where the machine starts.
use Rattle.std.proofs.Common.{◌≡◌, ℕ, Bool, true, false, List, [], ◌∷◌, Some, None, Option, sym, refl, ap, ◌∙◌, arith}
use Rattle.std.proofs.lemmas.Bool.{and_parts}
use Rattle.std.specs.List.{list_all}
use Rattle.search.specs.Net.{Leg, Net, less, Delays}
use Rattle.search.specs.Walk.{put, fit, ready}
use Rattle.search.specs.Machine.{Frame, bus, State, ended, plug, go_on, unless, take_back, next, step_at, begin_at, to_come}
use Rattle.search.specs.Stored.{
  Ranked,
  Place,
  advance,
  behind,
  tests,
  filled_by,
  first_place,
  place_of,
  tests_at,
  Stage,
  testing,
  complete,
  exhausted,
  head_of,
  resume,
  but_for,
  retract,
  upwards,
  try_at,
  orders_at,
  state_of,
  distinct,
  Distinct,
  TryIsAStep,
  FirstStageHasAll,
}
use Rattle.search.proofs.Machine.{start-has_all}
use Rattle.search.proofs.Behind.{behind-first}
use Rattle.search.proofs.Place.{advance-keeps}
use Rattle.search.proofs.Distinct.{distinct-less, distinct-candidates, behind-next}

-- ---------------------------------------------------------------- the open legs are distinct
-- no leg stands twice in the open legs of a place or in a list after them
abbrev DistinctAt : Place → Type 0
DistinctAt at = list_all distinct (at.open' ∷ at.later) ≡ true

distinct-advance : (fs : List Frame) (p : Delays) (l : List Leg) (ls : List (List Leg)) → list_all distinct (l ∷ ls) ≡ true →
    DistinctAt (advance fs p l ls)
distinct-advance = advance-keeps (λ _ _ l ls. list_all distinct (l ∷ ls) ≡ true) (λ fs p l ls h. h)

distinct-first : (ls : List (List Leg)) → list_all distinct ls ≡ true → DistinctAt (first_place ls)
distinct-first [] h = refl
distinct-first (l ∷ ls) h = distinct-advance [] (λ _. None) l ls h

distinct-at : (net : Net) → Distinct net → (rs : List Ranked) → DistinctAt (place_of net rs)
distinct-at net h [] = distinct-first net.buses h
distinct-at net h (r ∷ rs) =
    let at = place_of net rs in
    distinct-advance _ _ (less r.leg at.open') at.later (grind (arith, distinct-less r.leg at.open', distinct-at net h rs))

distinct-tests : (net : Net) → Distinct net → (rs : List Ranked) → distinct (tests_at net rs) ≡ true
distinct-tests net h rs =
    let at = place_of net rs in
    distinct-candidates net at.delays at.open'
    (and_parts (distinct at.open') (list_all distinct at.later) (distinct-at net h rs)).0

-- ---------------------------------------------------------------- the next rank
-- the machine at a place of a net with the buses bs, where the legs l are open there
abbrev next_at : Net → List (List Leg) → Place → List Leg → State
next_at net bs at [] = ended (Some (orders_at bs at.frames))
next_at net bs at (y ∷ l) = go_on at.frames at.delays at.open' at.later (tests net at) (take_back net at.frames)

next-advances : (net : Net) (bs : List (List Leg)) (fs : List Frame) (p : Delays) (l : List Leg) (ls : List (List Leg)) →
    let at = advance fs p l ls in
    orders_at bs at.frames ≡ plug at.frames ([] ∷ []) → next_at net bs at at.open' ≡ next net fs p l ls
next-advances net bs fs p [] [] e = ap (λ (os : List (List Leg)). ended (Some os)) e
next-advances net bs fs p [] (l ∷ ls) e = next-advances net bs (bus ∷ fs) p l ls e
next-advances net bs fs p (y ∷ l) ls e = refl

next-first : (net : Net) (bs : List (List Leg)) → next_at net bs (first_place bs) (first_place bs).open' ≡ begin_at net bs
next-first net [] = refl
next-first net (l ∷ ls) = next-advances net (l ∷ ls) [] (λ _. None) l ls refl

-- where a rank is filled
orders-filled : (bs : List (List Leg)) (f : Frame) (fs : List Frame) (p : Delays) (l : List Leg) (ls : List (List Leg)) →
    let at = advance (f ∷ fs) p l ls in
    orders_at bs at.frames ≡ plug at.frames ([] ∷ [])
orders-filled [] f fs p l ls =
    advance-keeps (λ gs _ _ _. orders_at [] gs ≡ plug gs ([] ∷ [])) (λ gs q k ks h. refl) (f ∷ fs) p l ls refl
orders-filled (b ∷ bs) f fs p l ls = refl

next-filled : (net : Net) (bs : List (List Leg)) (f : Frame) (fs : List Frame) (p : Delays) (l : List Leg) (ls : List (List Leg)) →
    let at = advance (f ∷ fs) p l ls in
    next_at net bs at at.open' ≡ next net (f ∷ fs) p l ls
next-filled net bs f fs p l ls = next-advances net bs (f ∷ fs) p l ls (orders-filled bs f fs p l ls)

-- to pass over buses takes nothing back
back_advances : (net : Net) (fs : List Frame) (p : Delays) (l : List Leg) (ls : List (List Leg)) →
    take_back net (advance fs p l ls).frames ≡ take_back net fs
back_advances net fs p l ls = advance-keeps (λ gs _ _ _. take_back net gs ≡ take_back net fs) (λ gs p l ls h. h) fs p l ls refl

back_first : (net : Net) (ls : List (List Leg)) → take_back net (first_place ls).frames ≡ ended None
back_first net [] = refl
back_first net (l ∷ ls) = back_advances net [] (λ _. None) l ls

-- ---------------------------------------------------------------- the stage and the state
-- the state in which the legs cs are tested at a place, and with b where there is none
abbrev go_on_at : Place → List Leg → State → State
go_on_at at cs b = go_on at.frames at.delays at.open' at.later cs b

-- the legs behind the first of cs, among the tests, are the others of cs
abbrev Behind : List Leg → List Leg → Type 0
Behind ts [] = Unit {0}
Behind ts (c ∷ cs) = behind c ts ≡ cs

resume-state : (net : Net) (rs : List Ranked) (cs : List Leg) (s : Stage) (b : State) → Behind (tests_at net rs) cs →
    state_of net s ≡ b → state_of net (resume rs (head_of cs) s) ≡ go_on_at (place_of net rs) cs b
resume-state net rs [] s b h e = e
resume-state net rs (c ∷ cs) s b h e = ap (λ (v : List Leg). go_on_at (place_of net rs) (c ∷ v) b) h

but_for-state : (net : Net) (t : Bool) (r s : Stage) (a b : State) → state_of net r ≡ a → state_of net s ≡ b →
    state_of net (but_for t r s) ≡ unless t a b
but_for-state net true r s a b e f = e
but_for-state net false r s a b e f = f

behind-behind : (c : Leg) (ts : List Leg) → distinct ts ≡ true → Behind ts (behind c ts)
behind-behind c ts h = go (behind c ts) refl
  where
    go : (cs : List Leg) → behind c ts ≡ cs → Behind ts cs
    go [] e = tt
    go (d ∷ cs) e = behind-next c d ts cs h e

behind-all : (ts : List Leg) → Behind ts ts
behind-all [] = tt
behind-all (c ∷ cs) = behind-first c cs

upwards-state : (net : Net) (rs : List Ranked) (l : List Leg) → state_of net (retract net rs) ≡ take_back net (place_of net rs).frames →
    state_of net (upwards net rs l) ≡ next_at net net.buses (place_of net rs) l
upwards-state net rs [] e = refl
upwards-state net rs (y ∷ l) e = resume-state net rs (tests_at net rs) (retract net rs) _ (behind-all (tests_at net rs)) e

module _ (net : Net) (once : Distinct net) where
  behind-tests : (c : Leg) (rs : List Ranked) → Behind (tests_at net rs) (behind c (tests_at net rs))
  behind-tests c rs = behind-behind c (tests_at net rs) (distinct-tests net once rs)

  retract-state : (rs : List Ranked) → state_of net (retract net rs) ≡ take_back net (place_of net rs).frames
  retract-state [] = sym (back_first net net.buses)
  retract-state (r ∷ rs) =
      let at = place_of net rs in
      let cs = behind r.leg (tests_at net rs) in
      let back = retract-state rs in
      but_for-state net (ready net at.delays r.leg) (retract net rs) (resume rs (head_of cs) (retract net rs)) _ _ back
      (resume-state net rs cs (retract net rs) _ (behind-tests r.leg rs) back)
      ∙ sym (back_advances net (filled_by net at r.leg ∷ at.frames) (put at.delays r.leg (Some r.delay))
      (less r.leg at.open') at.later)

  try_state : (rs : List Ranked) (c : Leg) (o : Option ℕ) →
      let at = place_of net rs in
      state_of net (try_at net rs c o) ≡ step_at net at.frames at.delays at.open' at.later c (behind c (tests_at net rs)) o
  try_state rs c None = resume-state net rs (behind c (tests_at net rs)) (retract net rs) _ (behind-tests c rs) (retract-state rs)
  try_state rs c (Some d) =
      let at = place_of net rs in
      let up : List Ranked = record { leg = c; delay = d } ∷ rs in
      let f = filled_by net at c in
      let p = put at.delays c (Some d) in
      upwards-state net up (place_of net up).open' (retract-state up)
      ∙ next-filled net net.buses f at.frames p (less c at.open') at.later

-- ---------------------------------------------------------------- one try, and the start
pub try_is_a_step : TryIsAStep
try_is_a_step net once (testing rs c) =
    try_state net once rs c (fit net (place_of net rs).delays (place_of net rs).open' c)
try_is_a_step net once (complete rs) = refl
try_is_a_step net once exhausted = refl

pub first-stage_has_all : FirstStageHasAll
first-stage_has_all net =
    ap (to_come net) (upwards-state net [] (place_of net []).open' (sym (back_first net net.buses)) ∙ next-first net net.buses)
    ∙ start-has_all net
