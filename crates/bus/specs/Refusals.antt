-- The number of each refusal, as callers and sheets see it; and its text.
use Rattle.std.specs.Prelude.{ℕ, List, codes}
use Rattle.bus.specs.declared.refusal.Refusal.{Refusal}
use Rattle.bus.specs.declared.refusal.Refusal.TheVariants.{Form, Count, Range, NoBus, SourceIsDestination, Taken, NoLeg, NoMessages, NotFound, FewRows, WrongRows}

abbrev pub number_of : Refusal → ℕ
number_of Form = 1
number_of Count = 2
number_of Range = 3
number_of NoBus = 4
number_of SourceIsDestination = 5
number_of Taken = 6
number_of NoLeg = 7
number_of NoMessages = 8
number_of NotFound = 9
number_of FewRows = 10
number_of WrongRows = 11

abbrev pub said : Refusal → List ℕ
said Form = codes "a line of the sheet breaks the form"
said Count = codes "a count is out of range"
said Range = codes "a number is out of range"
said NoBus = codes "a bus is not on the board"
said SourceIsDestination = codes "the source is one of the destinations"
said Taken = codes "the number is taken"
said NoLeg = codes "there is no such leg"
said NoMessages = codes "the board has no messages"
said NotFound = codes "the walk has found no orders"
said FewRows = codes "there are too few rows, or the buffer is too small"
said WrongRows = codes "the rows do not name every leg exactly once, by bus"
