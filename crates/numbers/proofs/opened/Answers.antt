-- By the answer. Assumes nothing.
use Rattle.numbers.proofs.Dialling.{is_number, unopened_number, refused_number}
use Rattle.numbers.proofs.opened.Goals as goal

pub returns-in-Is : goal.returns-in-Is
returns-in-Is c = search is_number

pub returns-in-Unopened : goal.returns-in-Unopened
returns-in-Unopened c = search unopened_number

pub returns-in-Refused : goal.returns-in-Refused
returns-in-Refused c = search refused_number
