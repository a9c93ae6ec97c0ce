use Rattle.search.proofs.Bound.{within-bound}
use Rattle.search.proofs.LocalBound.{within-local_bound}
use Rattle.search.proofs.within_bound.Goals as goal

pub returns : goal.returns
returns c = (within-bound, within-local_bound)
