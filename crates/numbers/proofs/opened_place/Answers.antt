-- By the answer. Assumes nothing.
use Rattle.numbers.proofs.Dialling.{is_place, unopened_place, refused_place}
use Rattle.numbers.proofs.opened_place.Goals as goal

pub returns-in-Is : goal.returns-in-Is
returns-in-Is c = search is_place

pub returns-in-Unopened : goal.returns-in-Unopened
returns-in-Unopened c = search unopened_place

pub returns-in-Refused : goal.returns-in-Refused
returns-in-Refused c = search refused_place
