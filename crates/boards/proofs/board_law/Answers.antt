use Rattle.boards.proofs.BoardLaws.{walk_laws-hold}
use Rattle.boards.proofs.Lawful.{board-lawful}
use Rattle.boards.proofs.board_law.Goals as goal

pub returns : goal.returns
returns c = record { lawful = board-lawful; walk = walk_laws-hold }
