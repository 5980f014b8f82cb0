-- By the answer. Assumes nothing.
use Rattle.numbers.proofs.Dialling.{at_number, lost_number}
use Rattle.numbers.proofs.located.Goals as goal

pub returns-in-At : goal.returns-in-At
returns-in-At c = search at_number

pub returns-in-Refused : goal.returns-in-Refused
returns-in-Refused c = search lost_number
