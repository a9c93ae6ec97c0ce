-- How a program stores the walk: the ranked legs with their delays, and the leg that is tested next, or that the walk has ended. The rest
-- is computed from these. No public contract of the planner cites this file: what a caller is told is the walk.
use Rattle.std.specs.Prelude.{◌≡◌, ℕ, zero, suc, ◌+◌, min, Bool, true, false, cond, not, ◌&&◌, List, [], ◌∷◌, ◌++◌, map, length, is_some, Some, None, Option, ◌==◌}
use Rattle.std.specs.List.{list_all, filter, AllByRecursion}
use Rattle.search.specs.Net.{Leg, same, Net, has, less, Delays}
use Rattle.search.specs.Deadlines.{delays}
use Rattle.search.specs.Walk.{Walked, put, fit, ready, candidates, walk}
use Rattle.search.specs.Laws.{Apart, Lawful}
use Rattle.search.specs.Machine.{Frame, rank, bus, State, going, ended, to_come, plug, step, left_after}

-- ---------------------------------------------------------------- where the next rank is
-- a ranked leg with its delay; a list of them has the latest first
pub record Ranked : Type 0 where
  pub leg : Leg
  pub delay : ℕ

-- the filled ranks, the delays, the open legs of the bus that is filled (none where all legs are ranked), and the buses after it
pub record Place : Type 0 where
  pub frames : List Frame
  pub delays : Delays
  pub open' : List Leg
  pub later : List (List Leg)

-- passes over the buses without open legs
abbrev pub advance : List Frame → Delays → List Leg → List (List Leg) → Place
advance fs p [] [] = record { frames = fs; delays = p; open' = []; later = [] }
advance fs p [] (l ∷ ls) = advance (bus ∷ fs) p l ls
advance fs p (y ∷ l) ls = record { frames = fs; delays = p; open' = y ∷ l; later = ls }

-- what stands behind x in a list
abbrev pub behind : Leg → List Leg → List Leg
behind x [] = []
behind x (y ∷ l) = cond (same x y) l (behind x l)

-- the legs to be tested at a place, in this order
abbrev pub tests : Net → Place → List Leg
tests net at = candidates net at.delays at.open'

-- the rank at a place, filled by x
abbrev pub filled_by : Net → Place → Leg → Frame
filled_by net at x = rank at.delays at.open' at.later x (behind x (tests net at))

-- the place above, once a leg is ranked
abbrev pub ranked_at : Net → Place → Ranked → Place
ranked_at net at r =
    let x = r.leg in
    advance (filled_by net at x ∷ at.frames) (put at.delays x (Some r.delay)) (less x at.open') at.later

abbrev pub first_place : List (List Leg) → Place
first_place [] = record { frames = []; delays = λ _. None; open' = []; later = [] }
first_place (l ∷ ls) = advance [] (λ _. None) l ls

-- the place above the ranked legs
abbrev pub place_of : Net → List Ranked → Place
place_of net [] = first_place net.buses
place_of net (r ∷ rs) = ranked_at net (place_of net rs) r

abbrev pub tests_at : Net → List Ranked → List Leg
tests_at net rs = tests net (place_of net rs)

-- ---------------------------------------------------------------- what is stored, and one try
-- a leg is tested next above the ranked ones; or all legs are ranked; or every ranking was taken back
pub data Stage : Type 0 where
  testing : List Ranked → Leg → Stage
  complete : List Ranked → Stage
  exhausted : Stage

abbrev pub head_of : List Leg → Option Leg
head_of [] = None
head_of (x ∷ l) = Some x

-- testing goes on with a leg, and with b where there is none
abbrev pub resume : List Ranked → Option Leg → Stage → Stage
resume rs None b = b
resume rs (Some c) b = testing rs c

abbrev pub but_for : Bool → Stage → Stage → Stage
but_for true b s = b
but_for false b s = s

-- no leg is left to test: the latest ranking is taken back, and the one before it where that leg was ready or was the last to be tested
abbrev pub retract : Net → List Ranked → Stage
retract net [] = exhausted
retract net (r ∷ rs) =
    let b = retract net rs in
    but_for (ready net (place_of net rs).delays r.leg) b (resume rs (head_of (behind r.leg (tests_at net rs))) b)

-- the first test above the ranked legs, where these legs are open
abbrev pub upwards : Net → List Ranked → List Leg → Stage
upwards net rs [] = complete rs
upwards net rs (y ∷ l) = resume rs (head_of (tests_at net rs)) (retract net rs)

-- c was tested, and fits with a delay or not
abbrev pub try_at : Net → List Ranked → Leg → Option ℕ → Stage
try_at net rs c None = resume rs (head_of (behind c (tests_at net rs))) (retract net rs)
try_at net rs c (Some d) =
    let up : List Ranked = record { leg = c; delay = d } ∷ rs in
    upwards net up (place_of net up).open'

-- one try
abbrev pub try_once : Net → Stage → Stage
try_once net (testing rs c) = try_at net rs c (fit net (place_of net rs).delays (place_of net rs).open' c)
try_once net (complete rs) = complete rs
try_once net exhausted = exhausted

-- the walk at its start
abbrev pub start_stage : Net → Stage
start_stage net = upwards net [] (place_of net []).open'

-- a run of tries: how many were made, and what is stored then
pub record Tried : Type 0 where
  pub made : ℕ
  pub stage : Stage

abbrev pub tried_more : Tried → Tried
tried_more t = record { made = suc t.made; stage = t.stage }

abbrev pub try_from : (Stage → Tried) → Net → Stage → Tried
try_from f net (testing rs c) = tried_more (f (try_once net (testing rs c)))
try_from f net (complete rs) = record { made = 0; stage = complete rs }
try_from f net exhausted = record { made = 0; stage = exhausted }

-- n tries, fewer only where the walk ends
abbrev pub try_up_to : Net → ℕ → Stage → Tried
try_up_to net zero s = record { made = 0; stage = s }
try_up_to net (suc n) s = try_from (try_up_to net n) net s

abbrev pub is_over : Stage → Bool
is_over (testing rs c) = false
is_over (complete rs) = true
is_over exhausted = true

-- ---------------------------------------------------------------- what is to come
-- the orders of the filled ranks, where all legs are ranked; a net without buses has no order
abbrev pub orders_at : List (List Leg) → List Frame → List (List Leg)
orders_at [] [] = []
orders_at [] (f ∷ fs) = plug (f ∷ fs) ([] ∷ [])
orders_at (l ∷ ls) fs = plug fs ([] ∷ [])

-- the machine's state
abbrev pub state_of : Net → Stage → State
state_of net (testing rs c) =
    let at = place_of net rs in
    going at.frames at.delays at.open' at.later c (behind c (tests_at net rs))
state_of net (complete rs) = ended (Some (orders_at net.buses (place_of net rs).frames))
state_of net exhausted = ended None

-- what is still to come of the walk
abbrev pub left : Net → Stage → Walked
left net s = to_come net (state_of net s)

-- ---------------------------------------------------------------- by the ranked legs alone
-- the delays of the ranked legs
abbrev pub stored : List Ranked → Delays
stored [] = λ _. None
stored (r ∷ rs) = put (stored rs) r.leg (Some r.delay)

abbrev pub unranked : List Ranked → Leg → Bool
unranked rs x = not (is_some (stored rs x))

abbrev pub or_next : List Leg → List Leg → List Leg
or_next [] k = k
or_next (x ∷ h) k = x ∷ h

-- the unranked legs of the first list that has any
abbrev pub first_open : List Ranked → List (List Leg) → List Leg
first_open rs [] = []
first_open rs (l ∷ ls) = or_next (filter (unranked rs) l) (first_open rs ls)

-- the first leg that passes a test, and another where there is none
abbrev pub first_by : (Leg → Bool) → List Leg → Option Leg
first_by f [] = None
first_by f (x ∷ l) = cond (f x) (Some x) (first_by f l)

abbrev pub or_first : Option Leg → Option Leg → Option Leg
or_first None b = b
or_first (Some x) b = Some x

-- the ranked legs, the earliest first
abbrev pub in_turn : List Ranked → List Leg
in_turn [] = []
in_turn (r ∷ rs) = in_turn rs ++ r.leg ∷ []

-- the ranked legs of a bus, from the lowest rank up
abbrev pub order_of : List Ranked → List Leg → List Leg
order_of rs l = filter (λ x. has x l) (in_turn rs)

abbrev pub orders_of : Net → List Ranked → List (List Leg)
orders_of net rs = map (order_of rs) net.buses

-- ---------------------------------------------------------------- what every stage of the walk keeps
abbrev pub gets : Option ℕ → ℕ → Bool
gets None d = false
gets (Some e) d = e == d

-- the leg is open at the place, and fits there with its delay
abbrev pub fitted : Net → Place → Ranked → Bool
fitted net at r = has r.leg at.open' && gets (fit net at.delays at.open' r.leg) r.delay

-- each ranked leg was open at its place, and fitted there with its delay
abbrev pub kept : Net → List Ranked → Bool
kept net [] = true
kept net (r ∷ rs) = fitted net (place_of net rs) r && kept net rs

-- the part of it that says nothing of the delays: each ranked leg was open at its place
abbrev pub placed : Net → List Ranked → Bool
placed net [] = true
placed net (r ∷ rs) = has r.leg (place_of net rs).open' && placed net rs

abbrev pub is_empty : List Leg → Bool
is_empty [] = true
is_empty (x ∷ l) = false

-- k of the ranked legs of a stage; besides, the leg tested next is open, and where the stage is complete no leg is
abbrev pub standing : Net → (List Ranked → Bool) → Stage → Bool
standing net k (testing rs c) = has c (place_of net rs).open' && k rs
standing net k (complete rs) = is_empty (place_of net rs).open' && k rs
standing net k exhausted = true

abbrev pub kept_at : Net → Stage → Bool
kept_at net s = standing net (kept net) s

abbrev pub placed_at : Net → Stage → Bool
placed_at net s = standing net (placed net) s

-- the number of legs of several buses
abbrev pub leg_count : List (List Leg) → ℕ
leg_count [] = 0
leg_count (l ∷ ls) = length l + leg_count ls

-- ---------------------------------------------------------------- the claims
-- no leg stands twice in a list
abbrev pub distinct : List Leg → Bool
distinct [] = true
distinct (x ∷ l) = not (has x l) && distinct l

-- no leg stands twice in the list of a bus
abbrev pub Distinct : Net → Type 0
Distinct net = list_all distinct net.buses ≡ true

-- One try on what is stored is one step of the machine.
abbrev pub TryIsAStep : Type 0
TryIsAStep = (net : Net) → Distinct net → (s : Stage) → state_of net (try_once net s) ≡ step net (state_of net s)

-- n tries make n, or as many as are to come; they leave the rest to come, with the same outcome
pub record Tries (net : Net) (n : ℕ) (s : Stage) : Type 0 where
  pub made : (try_up_to net n s).made ≡ min n (left net s).tries
  pub leaves : left net (try_up_to net n s).stage ≡ left_after n (left net s)

abbrev pub TriesMakeWhatIsLeft : Type 0
TriesMakeWhatIsLeft = (net : Net) → Distinct net → (n : ℕ) (s : Stage) → Tries net n s

-- at the start the whole walk is to come
abbrev pub FirstStageHasAll : Type 0
FirstStageHasAll = (net : Net) → left net (start_stage net) ≡ walk net

-- the walk is over exactly where no try is to come
abbrev pub OverWhereNoTryIsLeft : Type 0
OverWhereNoTryIsLeft = (net : Net) (s : Stage) →
    (is_over s ≡ true → (left net s).tries ≡ 0) × ((left net s).tries ≡ 0 → is_over s ≡ true)

-- f holds of the stages of a walk: of the first, and after one try, or a run of tries, from any of which it holds
pub record Keeps (net : Net) (f : Stage → Bool) : Type 0 where
  pub first : f (start_stage net) ≡ true
  pub once : (s : Stage) → f s ≡ true → f (try_once net s) ≡ true
  pub run : (n : ℕ) (s : Stage) → f s ≡ true → f (try_up_to net n s).stage ≡ true

abbrev pub EveryStageIsKept : Type 0
EveryStageIsKept = (net : Net) → Keeps net (kept_at net) × Keeps net (placed_at net)

-- where all legs are ranked, the outcome is their orders
abbrev pub CompleteHasItsOrders : Type 0
CompleteHasItsOrders = (net : Net) → Apart net.buses → (rs : List Ranked) → placed_at net (complete rs) ≡ true →
    left net (complete rs) ≡ record { tries = 0; outcome = Some (orders_of net rs) }

-- the delays stored are those in the orders found: for every leg, and so for each ranked one
pub record DelaysStored (net : Net) (rs : List Ranked) : Type 0 where
  pub table : (y : Leg) → delays net (orders_of net rs) y ≡ stored rs y
  pub each : AllByRecursion (λ r. delays net (orders_of net rs) r.leg ≡ Some r.delay) rs

abbrev pub FoundDelaysAreStored : Type 0
FoundDelaysAreStored = (net : Net) → Lawful net → (rs : List Ranked) → kept_at net (complete rs) ≡ true → DelaysStored net rs
