use Rattle.boards.proofs.BoardLaws.{legs_distinct}
use Rattle.boards.proofs.BusLegs.{legs_rise, legs_listed, legs_of_messages}
use Rattle.boards.proofs.board_lists.Goals as goal

pub returns : goal.returns
returns c = record { rise = legs_rise; distinct = legs_distinct; listed = legs_listed; whose = legs_of_messages }
