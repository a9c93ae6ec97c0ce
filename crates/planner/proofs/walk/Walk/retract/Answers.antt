use Rattle.std.proofs.Common.{Some, None, ap}
use Rattle.search.specs.Stored.{Stage, retract}
use Rattle.boards.specs.Nets.{leg_at}
use Rattle.planner.specs.Storage.{ranked_of}
use Rattle.planner.specs.Stages.{layout}
use Rattle.planner.proofs.TakenBack.{placed-taken, open_legs-taken, resume-taken}
use Rattle.planner.proofs.walk.Walk.retract.Goals as goal

pub after_ranked-requires : goal.after_ranked-requires
after_ranked-requires c =
    let some = c.loop-leg.invariant.0 in
    open_legs-taken c.args.table.now.messages.items c.loop-leg.self.ranked.items c.pop.new.self.items c.in-Some.leg c.in-Some.ensures.items some.0 some.1
    c.deref.result.now c.deref.ensures.value

pub returns-in-Some-after_ranked : goal.returns-in-Some-after_ranked
returns-in-Some-after_ranked c count k =
    let ms = c.args.table.now.messages.items in
    let so = c.loop-leg.invariant.1 count k in
    ap (λ (w : Stage). Some w)
    (resume-taken ms c.loop-leg.self.ranked.items c.pop.new.self.items c.in-Some.leg c.in-Some.ensures.items count so.0 c.deref.result.now
    c.deref.ensures.value (Some (leg_at c.in-Some.leg.bus c.in-Some-after_ranked.message)) (c.in-Some-after_ranked.ensures count)
    (retract (layout count ms) (ranked_of c.args.self.now.ranked.items)) so.1)

pub loop-leg-preserved : goal.loop-leg-preserved
loop-leg-preserved c =
    let ms = c.args.table.now.messages.items in
    let all = c.loop-leg.self.ranked.items in
    let rs = c.pop.new.self.items in
    let leg = c.in-Some.leg in
    let items = c.in-Some.ensures.items in
    let some = c.loop-leg.invariant.0 in (
      (some.0, placed-taken ms all rs leg items some.0 some.1),
      λ count k.
          let so = c.loop-leg.invariant.1 count k in (
            placed-taken ms all rs leg items count so.0,
            resume-taken ms all rs leg items count so.0 c.deref.result.now c.deref.ensures.value None (c.in_default-after_ranked.ensures count)
                (retract (layout count ms) (ranked_of c.args.self.now.ranked.items)) so.1,
          ),
    )
