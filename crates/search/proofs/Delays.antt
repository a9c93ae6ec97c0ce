-- The delays stored are those in the orders found.
use Rattle.std.proofs.Common.{◌≡◌, ℕ, true, List, [], ◌∷◌, Some, None, Option, sym, refl, ap, ◌∙◌, arith}
use Rattle.std.proofs.ByRecursion.{All-weaker}
use Rattle.std.proofs.lemmas.Bool.{or_left}
use Rattle.search.specs.Net.{Leg, Net, has, has_any, less, Delays}
use Rattle.search.specs.Deadlines.{Orders, delays}
use Rattle.search.specs.Walk.{put, or_else}
use Rattle.search.specs.Laws.{Lawful}
use Rattle.search.specs.Machine.{Frame, rank, plug}
use Rattle.search.specs.Stored.{Ranked, Place, advance, behind, filled_by, first_place, place_of, tests_at, complete, orders_at, kept, kept_at, stored, orders_of, FoundDelaysAreStored}
use Rattle.search.proofs.Shorter.{order-delay}
use Rattle.search.proofs.Open.{Open}
use Rattle.search.proofs.Marks.{marks}
use Rattle.search.proofs.Ranking.{same-mark}
use Rattle.search.proofs.Fits.{fit-gets}
use Rattle.search.proofs.Place.{advance-keeps, place-delays, place-ends, kept-below, kept-placed, kept-placed_at, was_open, did_fit, open_at, stored-each}
use Rattle.search.proofs.Filled.{orders-as_stored}
use Rattle.search.proofs.Over.{complete_open}

-- Above the filled ranks fs stand orders of the open legs ls: in the orders of both, a ranked leg has its delay in p, and another the
-- delay in its order.
abbrev Marked : Net → List Frame → Delays → List (List Leg) → Type 0
Marked net fs p ls = (os : List (List Leg)) → Orders os ls → (y : Leg) → delays net (plug fs os) y ≡ marks net p os y

abbrev MarkedAt : Net → Place → Type 0
MarkedAt net at = Marked net at.frames at.delays (at.open' ∷ at.later)

marked-advance : (net : Net) (fs : List Frame) (p : Delays) (l : List Leg) (ls : List (List Leg)) → Marked net fs p (l ∷ ls) →
    MarkedAt net (advance fs p l ls)
marked-advance net =
    advance-keeps (λ fs p l ls. Marked net fs p (l ∷ ls)) (λ fs p l ls h os o y. h ([] ∷ os) (refl, o) y)

marked-first : (net : Net) (ls : List (List Leg)) → MarkedAt net (first_place ls)
marked-first net [] = λ os o y. refl
marked-first net (l ∷ ls) = marked-advance net [] (λ _. None) l ls (λ os o y. refl)

marked-rank : (net : Net) → Lawful net → (fs : List Frame) (p : Delays) (l : List Leg) (ls : List (List Leg)) → Open p (l ∷ ls) →
    (x : Leg) → has x l ≡ true → (d : ℕ) → net.delay x (less x l) ≡ Some d → Marked net fs p (l ∷ ls) →
    (cs : List Leg) → Marked net (rank p l ls x cs ∷ fs) (put p x (Some d)) (less x l ∷ ls)
marked-rank net lawful fs p l ls stands x on d e h cs [] o y = absurd o
marked-rank net lawful fs p l ls stands x on d e h cs (o ∷ os) (first, rest) y =
    h ((x ∷ o) ∷ os) ((on, first), rest) y
    ∙ same-mark net x o os p d (stands.none x (or_left (has x l) (has_any x ls) on)) (order-delay net lawful x o (less x l) first ∙ e) y

marked-at : (net : Net) → Lawful net → (rs : List Ranked) → kept net rs ≡ true → MarkedAt net (place_of net rs)
marked-at net lawful [] k = marked-first net net.buses
marked-at net lawful (r ∷ rs) k =
    let at = place_of net rs in
    let x = r.leg in
    let below = kept-below net r rs k in
    let gets = fit-gets net at.delays at.open' x r.delay (did_fit net r rs k) in
    marked-advance net (filled_by net at x ∷ at.frames) (put at.delays x (Some r.delay)) (less x at.open') at.later
    (marked-rank net lawful at.frames at.delays at.open' at.later (open_at net lawful.apart rs (kept-placed net rs below)) x
    (was_open net r rs (kept-placed net (r ∷ rs) k))
    r.delay gets (marked-at net lawful rs below) (behind x (tests_at net rs)))

-- ---------------------------------------------------------------- where all legs are ranked
or_else_none : (a : Option ℕ) → or_else a None ≡ a
or_else_none None = refl
or_else_none (Some d) = refl

-- a net without buses has no delays
orders-delays : (net : Net) (bs : List (List Leg)) (fs : List Frame) (y : Leg) →
    delays net (orders_at bs fs) y ≡ delays net (plug fs ([] ∷ [])) y
orders-delays net [] [] y = refl
orders-delays net [] (f ∷ fs) y = refl
orders-delays net (l ∷ ls) fs y = refl

module _ (net : Net) (lawful : Lawful net) (rs : List Ranked) (h : kept_at net (complete rs) ≡ true) where
  k : kept net rs ≡ true
  k = grind arith

  none : (place_of net rs).open' ≡ []
  none = complete_open net rs (kept-placed_at net (complete rs) h)

  nothing_open : Orders ([] ∷ []) ((place_of net rs).open' ∷ (place_of net rs).later)
  nothing_open = rw (none, place-ends net rs none) (refl, tt)

  found-delay : (y : Leg) → delays net (orders_of net rs) y ≡ stored rs y
  found-delay y =
      ap (λ (os : List (List Leg)). delays net os y) (sym (orders-as_stored net lawful.apart rs (kept-placed net rs k) none))
      ∙ orders-delays net net.buses (place_of net rs).frames y
      ∙ marked-at net lawful rs k ([] ∷ []) nothing_open y
      ∙ or_else_none ((place_of net rs).delays y)
      ∙ ap (λ (p : Delays). p y) (place-delays net rs)

pub found-delays_are_stored : FoundDelaysAreStored
found-delays_are_stored net lawful rs h =
    record {
      table = found-delay net lawful rs h;
      each = All-weaker (λ r. stored rs r.leg ≡ Some r.delay) (λ r. delays net (orders_of net rs) r.leg ≡ Some r.delay)
          (λ r e. found-delay net lawful rs h r.leg ∙ e) rs (stored-each net lawful.apart rs (kept-placed net rs (k net lawful rs h)));
    }
