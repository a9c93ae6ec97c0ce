use Rattle.grammar.proofs.WrittenSheet.{written_back}
use Rattle.grammar.proofs.laws.written_is_read_back.Goals as goal

pub returns : goal.returns
returns c = written_back
