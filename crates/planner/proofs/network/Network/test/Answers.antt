use Rattle.bus.specs.Numbered.{member}
use Rattle.search.specs.Stored.{unranked}
use Rattle.planner.specs.Storage.{ranked_of}
use Rattle.planner.proofs.FitOnBoard.{fit-board}
use Rattle.planner.proofs.Listed.{message_there, message_number, message_listed}
use Rattle.planner.proofs.Stands.{stands-on_bus}
use Rattle.planner.proofs.network.Network.test.Goals as goal

pub returns-in_err-message : goal.returns-in_err-message
returns-in_err-message g c =
    let t = c.args.self.now.table in
    let rs = c.args.ranked.now in
    let s = c.args.spot in
    absurd (message_there t.messages.items t.rises (unranked (ranked_of rs)) s.bus s.message (stands-on_bus t.buses t.messages.items rs s c.requires)
    c.find.result c.find.ensures c.in_err-message.was)

pub fits-requires : goal.fits-requires
fits-requires g c =
    message_listed c.args.self.now.table.messages.items c.args.spot.message c.find.result c.find.ensures c.in_ok-message.message c.in_ok-message.was

pub returns : goal.returns
returns g c =
    let n = c.args.self.now in
    let number = message_number n.table.messages.items c.args.spot.message c.find.result c.find.ensures c.in_ok-message.message c.in_ok-message.was in
    fit-board g.R.BusRule.answer n c.args.ranked.now c.args.spot c.requires (member c.others-above.result.bits) c.others-above.ensures
    c.in_ok-message.message.number number c.fits.result c.fits.ensures
