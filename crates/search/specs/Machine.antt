-- The walk as a machine that makes one try at a step, and what is still to come from each of its states.
-- It is for programs that stop and resume: what a caller is told is the walk.
use Rattle.std.specs.Prelude.{◌≡◌, ℕ, zero, suc, ◌-◌, min, Bool, true, false, List, [], ◌∷◌, length, Some, None, Option}
use Rattle.std.specs.Option.{option_map}
use Rattle.search.specs.Net.{Leg, Net, less, Delays}
use Rattle.search.specs.Walk.{Walked, tick, put, fit, ready, candidates, or_go_on, test_all, after, under, new_bus, walk_bus, walk_from, walk}

-- what comes of the open legs l of a bus and of the buses ls after it
abbrev pub explore : Net → Delays → List Leg → List (List Leg) → Walked
explore net p l ls = walk_bus net (length l) (walk_from net ls) p l

-- what comes of testing the candidates cs at a rank
abbrev pub testing : Net → Delays → List Leg → List (List Leg) → List Leg → Walked
testing net p l ls cs =
    test_all (fit net p l) (ready net p) (λ c d. after (under c) (explore net (put p c (Some d)) (less c l) ls)) cs

-- A filled rank: the delays and the open legs before it was filled, the buses after this one, its leg, and the candidates not yet
-- tested there; or the beginning of a further bus.
pub data Frame : Type 0 where
  rank : Delays → List Leg → List (List Leg) → Leg → List Leg → Frame
  bus : Frame

-- the filled ranks, the latest first, with a leg to be tested and those to be tested after it; or the walk has ended
pub data State : Type 0 where
  going : List Frame → Delays → List Leg → List (List Leg) → Leg → List Leg → State
  ended : Option (List (List Leg)) → State

-- what comes of the whole, where r comes of all that is above the filled ranks
abbrev pub unwind : Net → List Frame → Walked → Walked
unwind net [] r = r
unwind net (rank p l ls x cs ∷ fs) r =
    unwind net fs (or_go_on (ready net p x) r.tries (option_map (under x) r.outcome) (testing net p l ls cs))
unwind net (bus ∷ fs) r = unwind net fs (after new_bus r)

-- what is still to come from a state
abbrev pub to_come : Net → State → Walked
to_come net (going fs p l ls c cs) = unwind net fs (testing net p l ls (c ∷ cs))
to_come net (ended o) = record { tries = 0; outcome = o }

-- the orders of the filled ranks, below those of the ranks above them
abbrev pub plug : List Frame → List (List Leg) → List (List Leg)
plug [] os = os
plug (rank p l ls x cs ∷ fs) os = plug fs (under x os)
plug (bus ∷ fs) os = plug fs (new_bus os)

-- testing goes on with cs, and with b where none is left
abbrev pub go_on : List Frame → Delays → List Leg → List (List Leg) → List Leg → State → State
go_on fs p l ls [] b = b
go_on fs p l ls (c ∷ cs) b = going fs p l ls c cs

abbrev pub unless : Bool → State → State → State
unless true b s = b
unless false b s = s

-- no leg is left to test: the latest ranking is taken back, and the one before it where that leg was ready or its candidates are used up
abbrev pub take_back : Net → List Frame → State
take_back net [] = ended None
take_back net (rank p l ls x cs ∷ fs) = unless (ready net p x) (take_back net fs) (go_on fs p l ls cs (take_back net fs))
take_back net (bus ∷ fs) = take_back net fs

-- the next rank to fill, on this bus or on a later one
abbrev pub next : Net → List Frame → Delays → List Leg → List (List Leg) → State
next net fs p [] [] = ended (Some (plug fs ([] ∷ [])))
next net fs p [] (l ∷ ls) = next net (bus ∷ fs) p l ls
next net fs p (y ∷ l) ls = go_on fs p (y ∷ l) ls (candidates net p (y ∷ l)) (take_back net fs)

abbrev pub step_at : Net → List Frame → Delays → List Leg → List (List Leg) → Leg → List Leg → Option ℕ → State
step_at net fs p l ls c cs None = go_on fs p l ls cs (take_back net fs)
step_at net fs p l ls c cs (Some d) = next net (rank p l ls c cs ∷ fs) (put p c (Some d)) (less c l) ls

-- one try
abbrev pub step : Net → State → State
step net (going fs p l ls c cs) = step_at net fs p l ls c cs (fit net p l c)
step net (ended o) = ended o

abbrev pub begin_at : Net → List (List Leg) → State
begin_at net [] = ended (Some [])
begin_at net (l ∷ ls) = next net [] (λ _. None) l ls

-- the walk at its start
abbrev pub start : Net → State
start net = begin_at net net.buses

-- a run of tries: how many were made, and where it stands
pub record Ran : Type 0 where
  pub made : ℕ
  pub stands : State

abbrev pub one_more : Ran → Ran
one_more r = record { made = suc r.made; stands = r.stands }

abbrev pub run_from : (State → Ran) → Net → State → Ran
run_from f net (going fs p l ls c cs) = one_more (f (step net (going fs p l ls c cs)))
run_from f net (ended o) = record { made = 0; stands = ended o }

-- n tries, fewer only where the walk ends
abbrev pub run : Net → ℕ → State → Ran
run net zero s = record { made = 0; stands = s }
run net (suc n) s = run_from (run net n) net s

-- One test leaves one try less to come, and the same outcome.
abbrev pub OneTryLess : Type 0
OneTryLess = (net : Net) (fs : List Frame) (p : Delays) (l : List Leg) (ls : List (List Leg)) (c : Leg) (cs : List Leg) →
    to_come net (going fs p l ls c cs) ≡ tick (to_come net (step net (going fs p l ls c cs)))

abbrev pub has_ended : State → Bool
has_ended (going fs p l ls c cs) = false
has_ended (ended o) = true

-- the walk has ended exactly where no try is to come
abbrev pub EndedWhereNoTryIsLeft : Type 0
EndedWhereNoTryIsLeft = (net : Net) (s : State) →
    (has_ended s ≡ true → (to_come net s).tries ≡ 0) × ((to_come net s).tries ≡ 0 → has_ended s ≡ true)

-- what n tries leave of it
abbrev pub left_after : ℕ → Walked → Walked
left_after n r = record { tries = r.tries - min n r.tries; outcome = r.outcome }

-- A run of n tries from any state makes n, or as many as are to come; it leaves the rest to come, with the same outcome.
pub record Runs (net : Net) (n : ℕ) (s : State) : Type 0 where
  pub made : (run net n s).made ≡ min n (to_come net s).tries
  pub leaves : to_come net (run net n s).stands ≡ left_after n (to_come net s)

abbrev pub RunMakesWhatIsLeft : Type 0
RunMakesWhatIsLeft = (net : Net) (n : ℕ) (s : State) → Runs net n s

-- at the start the whole walk is to come
abbrev pub StartHasAll : Type 0
StartHasAll = (net : Net) → to_come net (start net) ≡ walk net
