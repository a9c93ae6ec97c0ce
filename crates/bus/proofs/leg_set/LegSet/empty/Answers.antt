use Rattle.bus.proofs.Members.{member-none}
use Rattle.bus.proofs.leg_set.LegSet.empty.Goals as goal

pub returns : goal.returns
returns c = member-none
