-- A run of tries on a network, try by try.
use Rattle.std.proofs.Common.{◌≡◌, ◌≤◌, ℕ, zero, suc, ◌+◌, ◌-◌, ◌<◌, true, List, is_some, Some, sym, refl, ap, ◌∙◌, subst, arith}
use Rattle.bus.specs.Rules.{Meaning}
use Rattle.search.specs.Net.{Leg, Net}
use Rattle.search.specs.Stored as walk
use Rattle.search.proofs.Kept.{every_stage_is_kept}
use Rattle.planner.specs.Networks.{rules_of, net_on}
use Rattle.planner.specs.Storage.{ranked_of}
use Rattle.planner.specs.Stages.{layout, spot_leg, stage_of, reached, stands}
use Rattle.planner.specs.declared.network.Network.{Network}
use Rattle.planner.specs.declared.ranked.Ranked.{Ranked}
use Rattle.planner.specs.declared.rows.Spot.{Spot}
use Rattle.planner.specs.declared.stage.Stage.{Stage}
use Rattle.planner.specs.declared.stage.Stage.TheVariants.{Start, Testing, Complete, Exhausted}
use Rattle.planner.specs.declared.walk.Walk.{Walk}
use Rattle.planner.proofs.BusRules.{length-rules_of}
use Rattle.planner.proofs.FitOnBoard.{placed_at-board, start_stage-board}

-- ---------------------------------------------------------------- the stage that is stored
reached-stage : (net : Net) (rs : List Ranked) (s : Stage) (w : walk.Stage) → reached rs s ≡ Some w → stage_of net rs s ≡ w
reached-stage net rs Start w e = grind arith
reached-stage net rs (Testing x) w e = cc
reached-stage net rs Complete w e = cc
reached-stage net rs Exhausted w e = cc

is_over-unless_testing : (net : Net) (rs : List Ranked) (s : Stage) → is_some (reached rs s) ≡ true → ((x : Spot) → s ≡ Testing x → ⊥) →
    walk.is_over (stage_of net rs s) ≡ true
is_over-unless_testing net rs Start h other = grind arith
is_over-unless_testing net rs (Testing x) h other = absurd (other x refl)
is_over-unless_testing net rs Complete h other = refl
is_over-unless_testing net rs Exhausted h other = refl

-- ---------------------------------------------------------------- try by try
-- a run with so many tries made before it
abbrev pub with_more : ℕ → walk.Tried → walk.Tried
with_more n t = record { made = n + t.made; stage = t.stage }

-- Of so many tries from the stage s, some are made and lead to the stage w.
abbrev pub RunsTo : Net → ℕ → walk.Stage → ℕ → walk.Stage → Type 0
RunsTo net tries s made w = walk.try_up_to net tries s ≡ with_more made (walk.try_up_to net (tries - made) w)

try_up_to-over : (net : Net) (n : ℕ) (w : walk.Stage) → walk.is_over w ≡ true → walk.try_up_to net n w ≡ record { made = 0; stage = w }
try_up_to-over net zero w h = refl
try_up_to-over net (suc n) (walk.testing rs x) h = grind arith
try_up_to-over net (suc n) (walk.complete rs) h = refl
try_up_to-over net (suc n) walk.exhausted h = refl

module _ (net : Net) (tries : ℕ) (s : walk.Stage) where
  RunsTo-none : RunsTo net tries s 0 s
  RunsTo-none = grind arith

  RunsTo-more : (made : ℕ) (rs : List walk.Ranked) (x : Leg) → made < tries → RunsTo net tries s made (walk.testing rs x) →
      RunsTo net tries s (made + 1) (walk.try_once net (walk.testing rs x))
  RunsTo-more made rs x lt h =
      let one : tries - made ≡ suc (tries - (made + 1)) = omega arith in
      grind (arith, rw one at h)

  pub runs-all : (made : ℕ) (w : walk.Stage) → tries ≤ made → RunsTo net tries s made w → walk.try_up_to net tries s ≡ record { made = made; stage = w }
  runs-all made w le h =
      let none : tries - made ≡ 0 = omega arith in
      h ∙ ap (λ (k : ℕ). with_more made (walk.try_up_to net k w)) none ∙ ap (λ (k : ℕ). record { made = k; stage = w }) (omega arith)

  RunsTo-over : (made : ℕ) (w : walk.Stage) → walk.is_over w ≡ true → RunsTo net tries s made w →
      walk.try_up_to net tries s ≡ record { made = made; stage = w }
  RunsTo-over made w over h = grind (arith, h, try_up_to-over net (tries - made) w over)

-- ---------------------------------------------------------------- on a network
-- of so many tries from the walk `first`, some are made and led to the walk w
pub record Ran {S : Type 0} (f : S → Meaning) (n : Network S) (tries : ℕ) (first : Walk) (made : ℕ) (w : Walk) : Type 0 where
  pub runs : RunsTo (net_on f n) tries (stage_of (net_on f n) first.ranked.items first.stage) made (stage_of (net_on f n) w.ranked.items w.stage)
  pub begun : is_some (reached w.ranked.items w.stage) ≡ true
  pub stands : stands n.table.buses n.table.messages.items w.ranked.items w.stage ≡ true

module _ {S : Type 0} (f : S → Meaning) (n : Network S) (tries : ℕ) (first : Walk) where
  abbrev begins : walk.Stage
  begins = stage_of (net_on f n) first.ranked.items first.stage

  stage_of-layout : (rs : List Ranked) (s : Stage) → stage_of (net_on f n) rs s ≡ stage_of (layout n.table.buses n.table.messages.items) rs s
  stage_of-layout rs Start = start_stage-board (rules_of f n) n.gateway n.table.messages.items n.table.buses (length-rules_of f n)
  stage_of-layout rs (Testing x) = refl
  stage_of-layout rs Complete = refl
  stage_of-layout rs Exhausted = refl

  -- the walk has begun
  pub Ran-none : (w : Walk) → stands n.table.buses n.table.messages.items first.ranked.items first.stage ≡ true →
      reached w.ranked.items w.stage ≡ Some (stage_of (layout n.table.buses n.table.messages.items) first.ranked.items first.stage) →
      Ran f n tries first 0 w
  Ran-none w so h =
      let same : begins ≡ stage_of (net_on f n) w.ranked.items w.stage =
      stage_of-layout first.ranked.items first.stage ∙ sym (reached-stage (net_on f n) w.ranked.items w.stage _ h) in
      let here = layout n.table.buses n.table.messages.items in
      record {
        runs = subst (λ (v : walk.Stage). RunsTo (net_on f n) tries begins 0 v) same (RunsTo-none (net_on f n) tries begins);
        begun = ap is_some h;
        stands = ap (walk.placed_at here) (reached-stage here w.ranked.items w.stage _ h) ∙ so;
      }

  -- one try more
  pub Ran-more : (made : ℕ) (w v : Walk) (x : Spot) → w.stage ≡ Testing x → made < tries → Ran f n tries first made w →
      reached v.ranked.items v.stage ≡ Some (walk.try_once (net_on f n) (walk.testing (ranked_of w.ranked.items) (spot_leg x))) →
      Ran f n tries first (made + 1) v
  Ran-more made w v x is lt so h =
      let net = net_on f n in
      let here = layout n.table.buses n.table.messages.items in
      let same = placed_at-board (rules_of f n) n.gateway n.table.messages.items n.table.buses (length-rules_of f n) in
      let at = walk.testing (ranked_of w.ranked.items) (spot_leg x) in
      record {
        runs =
            subst (λ (u : walk.Stage). RunsTo net tries begins (made + 1) u) (sym (reached-stage net v.ranked.items v.stage _ h))
            (RunsTo-more net tries begins made (ranked_of w.ranked.items) (spot_leg x) lt
            (subst (λ (s : Stage). RunsTo net tries begins made (stage_of net w.ranked.items s)) is so.runs));
        begun = ap is_some h;
        stands =
            ap (walk.placed_at here) (reached-stage here v.ranked.items v.stage _ h) ∙ sym (same (walk.try_once net at))
            ∙ (every_stage_is_kept net).1.once at
            (same at ∙ subst (λ (s : Stage). stands n.table.buses n.table.messages.items w.ranked.items s ≡ true) is so.stands);
      }

  -- the walk has ended
  pub Ran-over : (made : ℕ) (w : Walk) → ((x : Spot) → w.stage ≡ Testing x → ⊥) → Ran f n tries first made w →
      walk.try_up_to (net_on f n) tries begins ≡ record { made = made; stage = stage_of (net_on f n) w.ranked.items w.stage }
  Ran-over made w other so =
      RunsTo-over (net_on f n) tries begins made _ (is_over-unless_testing (net_on f n) w.ranked.items w.stage so.begun other) so.runs
