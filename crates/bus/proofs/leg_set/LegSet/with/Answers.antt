use Rattle.std.proofs.Common.{rules}
use Rattle.bus.proofs.Members.{member-with}
use Rattle.bus.proofs.leg_set.LegSet.with.Goals as goal

pub returns : goal.returns
returns c = λ k. member-with c.args.self.bits c.args.number k (search rules)
