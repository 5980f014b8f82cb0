-- By the answer. Assumes nothing.
use Rattle.numbers.proofs.Dialling.{at_place, lost_place}
use Rattle.numbers.proofs.located_place.Goals as goal

pub returns-in-At : goal.returns-in-At
returns-in-At c = search at_place

pub returns-in-Refused : goal.returns-in-Refused
returns-in-Refused c = search lost_place
