-- The theorem is proved in proofs/Found.antt.
use Rattle.search.proofs.Found.{found-meets}
use Rattle.search.proofs.found_meets.Goals as goal

pub returns : goal.returns
returns c = found-meets
