-- The ranked legs of a board without the latest, which is taken back.
use Rattle.std.proofs.Common.{◌≡◌, ℕ, true, List, [], ◌∷◌, ◌++◌, map, length, Option, sym, ap, ◌∙◌, subst}
use Rattle.std.proofs.lemmas.List.{reverse-append, length-map, length-reverse}
use Rattle.bus.specs.declared.message.Message.{Message}
use Rattle.search.specs.Net.{Leg, has}
use Rattle.search.specs.Stored as walk
use Rattle.search.proofs.Place.{was_open, placed_below}
use Rattle.boards.specs.Nets.{leg_at}
use Rattle.planner.specs.Storage.{ranked_leg, ranked_of, open_legs}
use Rattle.planner.specs.Stages.{layout, after_ranked}
use Rattle.planner.specs.declared.ranked.Ranked.{Ranked}
use Rattle.planner.proofs.NextTests.{leg-open, retract-next}

pub ranked_of-more : (rs : List Ranked) (r : Ranked) → ranked_of (rs ++ r ∷ []) ≡ ranked_leg r ∷ ranked_of rs
ranked_of-more rs r = ap (map ranked_leg) (reverse-append rs (r ∷ []))

pub length-ranked_of : (rs : List Ranked) → length (ranked_of rs) ≡ length rs
length-ranked_of rs = simp (length-map, length-reverse)

module _ (ms : List Message) (all rs : List Ranked) (r : Ranked) (e : all ≡ rs ++ r ∷ []) (count : ℕ)
    (k : walk.placed (layout count ms) (ranked_of all) ≡ true) where
  latest : ranked_of all ≡ ranked_leg r ∷ ranked_of rs
  latest = ap ranked_of e ∙ ranked_of-more rs r

  stood : walk.placed (layout count ms) (ranked_leg r ∷ ranked_of rs) ≡ true
  stood = subst (λ v. walk.placed (layout count ms) v ≡ true) latest k

  pub placed-taken : walk.placed (layout count ms) (ranked_of rs) ≡ true
  placed-taken = placed_below (layout count ms) (ranked_leg r) (ranked_of rs) stood

  -- the others, as they were seen
  module _ (seen : List Ranked) (same : seen ≡ rs) where
    pub open_legs-taken : has (leg_at r.bus r.message) (open_legs ms seen r.bus) ≡ true
    open_legs-taken =
        subst (λ (v : List Ranked). has (leg_at r.bus r.message) (open_legs ms v r.bus) ≡ true) (sym same)
        (leg-open count ms (ranked_of rs) placed-taken (leg_at r.bus r.message) (was_open (layout count ms) (ranked_leg r) (ranked_of rs) stood))

    -- o is tested next, or where there is none the ranking before it is taken back
    module _ (o : Option Leg)
        (next : o ≡ after_ranked (layout count ms) (ranked_of seen) (open_legs ms seen r.bus) (leg_at r.bus r.message)) where
      retract-taken : walk.retract (layout count ms) (ranked_of all) ≡ walk.resume (ranked_of rs) o (walk.retract (layout count ms) (ranked_of rs))
      retract-taken =
          ap (walk.retract (layout count ms)) latest ∙ retract-next count ms (ranked_leg r) (ranked_of rs) stood
          ∙ ap (λ (x : Option Leg). walk.resume (ranked_of rs) x (walk.retract (layout count ms) (ranked_of rs)))
          (ap (λ (v : List Ranked). after_ranked (layout count ms) (ranked_of v) (open_legs ms v r.bus) (leg_at r.bus r.message)) (sym same)
          ∙ sym next)

      -- w comes of taking all back
      pub resume-taken : (w : walk.Stage) → walk.retract (layout count ms) (ranked_of all) ≡ w →
          walk.resume (ranked_of rs) o (walk.retract (layout count ms) (ranked_of rs)) ≡ w
      resume-taken w so = sym retract-taken ∙ so
