-- The theorem is proved in proofs/Dead.antt.
use Rattle.search.proofs.Dead.{none-meets}
use Rattle.search.proofs.none_meets.Goals as goal

pub returns : goal.returns
returns c = none-meets
