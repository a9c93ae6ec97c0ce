use Rattle.boards.proofs.Example.{example-boards}
use Rattle.boards.proofs.example_boards.Goals as goal

pub returns : goal.returns
returns c = example-boards
