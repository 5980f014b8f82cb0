-- Each arm gives the number that the case has there. Assumes nothing.
use Rattle.numbers.proofs.Numbered.{length_number, written_rest, number_number, place_number, rejected_rest}
use Rattle.numbers.proofs.written_number.Goals as goal

pub returns-in_default : goal.returns-in_default
returns-in_default c = search written_rest

pub returns-in_default-i : goal.returns-in_default-i
returns-in_default-i c = search rejected_rest

pub returns-in-2 : goal.returns-in-2
returns-in-2 c = search length_number

pub returns-in-0 : goal.returns-in-0
returns-in-0 c = search number_number

pub returns-in-1 : goal.returns-in-1
returns-in-1 c = search place_number
