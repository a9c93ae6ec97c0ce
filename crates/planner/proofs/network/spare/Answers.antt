use Rattle.bus.proofs.Members.{member-none}
use Rattle.planner.proofs.network.spare.Goals as goal

pub invariant_of-result-2-clause-elsewhere : goal.invariant_of-result-2-clause-elsewhere
invariant_of-result-2-clause-elsewhere c = member-none 1
