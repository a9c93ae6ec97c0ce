use Rattle.std.proofs.Common.{◌∙◌}
use Rattle.search.specs.Stored.{stored}
use Rattle.planner.specs.Networks.{board_on}
use Rattle.planner.specs.Storage.{ranked_of}
use Rattle.planner.proofs.OwnFit.{fit_at-own}
use Rattle.planner.proofs.network.Network.fits.Goals as goal

pub returns : goal.returns
returns g c =
    c.then_some.ensures
    ∙ fit_at-own (board_on g.R.BusRule.answer c.args.self.now) (stored (ranked_of c.args.ranked.now)) c.args.message c.args.bus c.args.self.now.table.rises
    c.requires _ c.in_ok-delay.delay c.in_ok-delay.ensures c.pairs_pass.result c.pairs_pass.ensures
