-- The machine makes the tries of the walk, one at a step: what is to come from a state is what is to come from the next, and one try.
use Rattle.std.proofs.Common.{◌≡◌, ℕ, suc, Bool, true, false, List, [], ◌∷◌, Some, None, Option, sym, refl, ap, ◌∙◌, arith}
use Rattle.std.proofs.lemmas.Bool.{false≢true}
use Rattle.std.specs.Option.{option_map}
use Rattle.search.specs.Net.{Leg, Net, less, Delays}
use Rattle.search.specs.Walk.{Walked, tick, or_go_on, tested, put, fit, ready, candidates, after, under, new_bus, walk_from}
use Rattle.search.specs.Machine.{
  explore,
  testing,
  Frame,
  rank,
  bus,
  State,
  going,
  ended,
  unwind,
  to_come,
  plug,
  go_on,
  unless,
  take_back,
  next,
  step_at,
  begin_at,
  OneTryLess,
  EndedWhereNoTryIsLeft,
  StartHasAll,
}
use Rattle.search.proofs.Room.{explore-tests}

pub same-walked : (r s : Walked) → r.tries ≡ s.tries → r.outcome ≡ s.outcome → r ≡ s
same-walked r s e f = λ i. record { tries = e i; outcome = f i }

-- ---------------------------------------------------------------- through the filled ranks
go_on-tick : (b : Bool) (n : ℕ) (o : Option (List (List Leg))) (r : Walked) → or_go_on b (suc n) o r ≡ tick (or_go_on b n o r)
go_on-tick b n (Some os) r = refl
go_on-tick true n None r = refl
go_on-tick false n None r = same-walked _ _ (omega arith) refl

-- a try more above the filled ranks is a try more in all
unwind-tick : (net : Net) (fs : List Frame) (r : Walked) → unwind net fs (tick r) ≡ tick (unwind net fs r)
unwind-tick net [] r = refl
unwind-tick net (rank p l ls x cs ∷ fs) r =
    ap (unwind net fs) (go_on-tick (ready net p x) r.tries (option_map (under x) r.outcome) (testing net p l ls cs))
    ∙ unwind-tick net fs _
unwind-tick net (bus ∷ fs) r = unwind-tick net fs (after new_bus r)

-- orders found above the filled ranks end the walk
unwind-found : (net : Net) (fs : List Frame) (os : List (List Leg)) →
    unwind net fs (record { tries = 0; outcome = Some os }) ≡ record { tries = 0; outcome = Some (plug fs os) }
unwind-found net [] os = refl
unwind-found net (rank p l ls x cs ∷ fs) os = unwind-found net fs (under x os)
unwind-found net (bus ∷ fs) os = unwind-found net fs (new_bus os)

-- ---------------------------------------------------------------- what comes of each move
abbrev stuck : Walked
stuck = record { tries = 0; outcome = None }

-- b is where the walk goes when no candidate is left
go_on-comes : (net : Net) (fs : List Frame) (p : Delays) (l : List Leg) (ls : List (List Leg)) (cs : List Leg) (b : State) →
    to_come net b ≡ unwind net fs stuck → to_come net (go_on fs p l ls cs b) ≡ unwind net fs (testing net p l ls cs)
go_on-comes net fs p l ls [] b e = e
go_on-comes net fs p l ls (c ∷ cs) b e = refl

unless-comes : (net : Net) (fs : List Frame) (b : Bool) (s t : State) (r : Walked) →
    to_come net s ≡ unwind net fs stuck → to_come net t ≡ unwind net fs r →
    to_come net (unless b s t) ≡ unwind net fs (or_go_on b 0 None r)
unless-comes net fs true s t r e f = e
unless-comes net fs false s t r e f = f ∙ ap (unwind net fs) (same-walked _ _ (omega arith) refl)

take_back-comes : (net : Net) (fs : List Frame) → to_come net (take_back net fs) ≡ unwind net fs stuck
take_back-comes net [] = refl
take_back-comes net (rank p l ls x cs ∷ fs) =
    let back = take_back-comes net fs in
    unless-comes net fs (ready net p x) _ _ (testing net p l ls cs) back (go_on-comes net fs p l ls cs _ back)
take_back-comes net (bus ∷ fs) = take_back-comes net fs

next-comes : (net : Net) (fs : List Frame) (p : Delays) (l : List Leg) (ls : List (List Leg)) →
    to_come net (next net fs p l ls) ≡ unwind net fs (explore net p l ls)
next-comes net fs p [] [] = sym (unwind-found net fs ([] ∷ []))
next-comes net fs p [] (l ∷ ls) = next-comes net (bus ∷ fs) p l ls
next-comes net fs p (y ∷ l) ls =
    go_on-comes net fs p (y ∷ l) ls (candidates net p (y ∷ l)) _ (take_back-comes net fs)
    ∙ ap (unwind net fs) (sym (explore-tests net p y l ls))

-- ---------------------------------------------------------------- one step, and the start
step-comes : (net : Net) (fs : List Frame) (p : Delays) (l : List Leg) (ls : List (List Leg)) (c : Leg) (cs : List Leg) (o : Option ℕ) →
    to_come net (step_at net fs p l ls c cs o)
    ≡ unwind net fs (tested o (ready net p c) (λ d. after (under c) (explore net (put p c (Some d)) (less c l) ls)) (testing net p l ls cs))
step-comes net fs p l ls c cs None = go_on-comes net fs p l ls cs _ (take_back-comes net fs)
step-comes net fs p l ls c cs (Some d) = next-comes net (rank p l ls c cs ∷ fs) (put p c (Some d)) (less c l) ls

pub one_try_less : OneTryLess
one_try_less net fs p l ls c cs = unwind-tick net fs _ ∙ ap tick (sym (step-comes net fs p l ls c cs (fit net p l c)))

begin_comes : (net : Net) (ls : List (List Leg)) → to_come net (begin_at net ls) ≡ walk_from net ls (λ _. None)
begin_comes net [] = refl
begin_comes net (l ∷ ls) = next-comes net [] (λ _. None) l ls

pub start-has_all : StartHasAll
start-has_all net = begin_comes net net.buses

pub ended-where_no_try_is_left : EndedWhereNoTryIsLeft
ended-where_no_try_is_left net (going fs p l ls c cs) =
    ((λ e. absurd (false≢true e)), λ e. absurd (omega (arith, ap (λ (r : Walked). r.tries) (one_try_less net fs p l ls c cs))))
ended-where_no_try_is_left net (ended o) = ((λ _. refl), λ _. refl)
