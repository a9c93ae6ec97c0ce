use Rattle.boards.proofs.BoardLaws.{walk_laws-over}
use Rattle.boards.proofs.search_law.Goals as goal

pub returns : goal.returns
returns g c =
    walk_laws-over g.R.BusRule.answer
    (λ s. record { bounded = g.met.R.BusRule.bounded s; absent = g.met.R.BusRule.absent s; shorter = g.met.R.BusRule.shorter s })
    c.args.rules.now
