-- Each arm gives the number that `reading_numbers` has in its case. Assumes nothing.
use Rattle.numbers.proofs.Numbering.{type_number, format_number, count_number, optionals_number, slices_number, accepted_rest, refusal_number, place_number, refused_rest}
use Rattle.numbers.proofs.number.Goals as goal

pub returns-in_default : goal.returns-in_default
returns-in_default c = search accepted_rest

pub returns-in_default-i : goal.returns-in_default-i
returns-in_default-i c = search refused_rest

pub returns-in-2 : goal.returns-in-2
returns-in-2 c = search type_number

pub returns-in-3 : goal.returns-in-3
returns-in-3 c = search format_number

pub returns-in-4 : goal.returns-in-4
returns-in-4 c = search count_number

pub returns-in-5 : goal.returns-in-5
returns-in-5 c = search optionals_number

pub returns-in-6 : goal.returns-in-6
returns-in-6 c = search slices_number

pub returns-in-0 : goal.returns-in-0
returns-in-0 c = search refusal_number

pub returns-in-1 : goal.returns-in-1
returns-in-1 c = search place_number
