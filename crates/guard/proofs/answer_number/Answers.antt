-- A room below 32 is the length of the part that is lent; from 32 on the room makes no difference. Assumes nothing.
use Rattle.guard.proofs.Numbering.{room_least}
use Rattle.guard.proofs.answer_number.Goals as goal

pub returns : goal.returns
returns c = search room_least
