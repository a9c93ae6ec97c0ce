use Rattle.std.proofs.Common.{rules}
use Rattle.bus.specs.Numbered.{member}
use Rattle.grammar.specs.Faults.{tests_at, sheet_fault}
use Rattle.grammar.specs.Numerals.{is_number}
use Rattle.grammar.specs.Words.{kind_in, is_to, set_in}
use Rattle.grammar.proofs.laws.worked_sheets.Goals as goal

pub returns : goal.returns
unfolding tests_at sheet_fault is_number kind_in is_to set_in member
returns c = search rules
