use Rattle.std.proofs.Common.{arith}
use Rattle.planner.specs.Stages.{spot_leg}
use Rattle.planner.proofs.BoardRoom.{room_for_one}
use Rattle.planner.proofs.Pushed.{first_open-pushed}
use Rattle.planner.proofs.Stands.{stands-open, stands-placed}
use Rattle.planner.proofs.walk.Walk.rank.Goals as goal

pub push_reserved-requires : goal.push_reserved-requires
push_reserved-requires c =
    let t = c.args.table.now in
    let rs = c.args.self.now.ranked.items in
    let s = c.args.spot in
    let room =
    room_for_one t.messages.items t.rises t.buses rs t.few (stands-placed t.buses t.messages.items rs s c.requires) (spot_leg s)
    (stands-open t.buses t.messages.items rs s c.requires) in
    omega (arith, room, c.args.self.now.roomy, c.args.self.now.ranked.ok)

pub upward-self-requires-clause-full : goal.upward-self-requires-clause-full
upward-self-requires-clause-full c =
    let t = c.args.table.now in
    first_open-pushed t.buses t.messages.items c.args.self.now.ranked.items c.args.spot c.requires c.args.delay c.deref.result.now
    c.push_reserved.new.self.items c.deref.ensures.value c.push_reserved.ensures.items
