use Rattle.std.proofs.Common.{Some, None, refl}
use Rattle.search.specs.Stored.{testing}
use Rattle.boards.specs.Nets.{leg_at}
use Rattle.planner.specs.Storage.{ranked_of}
use Rattle.planner.specs.Stages.{reached}
use Rattle.planner.proofs.Passed.{open_legs-spot, try_at-passed}
use Rattle.planner.proofs.Stands.{stands-placed}
use Rattle.planner.proofs.walk.Walk.pass.Goals as goal

pub after_tested-requires : goal.after_tested-requires
after_tested-requires c =
    let so = c.requires in
    open_legs-spot so.0 c.args.table.now.messages.items c.args.self.now.ranked.items c.args.spot so.1 c.deref.result.now c.deref.ensures.value

pub returns-in-Some : goal.returns-in-Some
returns-in-Some c count h =
    let rs = c.args.self.now.ranked.items in
    let x = leg_at c.args.spot.bus c.in-Some.message in
    try_at-passed count c.args.table.now.messages.items rs c.args.spot h c.deref.result.now c.deref.ensures.value (Some x) (c.in-Some.ensures count)
    (Some (testing (ranked_of rs) x)) refl

pub returns-in-None : goal.returns-in-None
returns-in-None c count h =
    let ms = c.args.table.now.messages.items in
    let rs = c.args.self.now.ranked.items in
    try_at-passed count ms rs c.args.spot h c.deref.result.now c.deref.ensures.value None (c.in-None.ensures count)
    (reached c.retract.new.self.ranked.items c.retract.new.self.stage) (c.retract.ensures count (stands-placed count ms rs c.args.spot h))
