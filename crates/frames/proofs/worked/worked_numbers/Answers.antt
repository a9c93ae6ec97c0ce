use Rattle.frames.proofs.WorkedNumbers.{worked_numbers}
use Rattle.frames.proofs.worked.worked_numbers.Goals as goal

pub returns : goal.returns
returns c = worked_numbers
