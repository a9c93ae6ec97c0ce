use Rattle.std.proofs.Common.{rules, ◌∙◌, sym}
use Rattle.bus.proofs.Members.{member-outside, member-shifted, number_above-zero}
use Rattle.bus.proofs.leg_set.has.Goals as goal

pub returns-then-contains : goal.returns-then-contains
returns-then-contains c = member-shifted c.args.bits c.args.number (number_above-zero c.args.number (search rules))

pub returns-else-contains : goal.returns-else-contains
returns-else-contains c = c.if-contains.false ∙ sym (member-outside c.args.bits c.args.number c.ranges.bits.fits (search rules))
