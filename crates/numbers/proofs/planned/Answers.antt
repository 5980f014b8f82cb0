-- By the answer. Assumes nothing.
use Rattle.numbers.proofs.Planning.{made_number, unplanned_number}
use Rattle.numbers.proofs.planned.Goals as goal

pub returns-in-Made : goal.returns-in-Made
returns-in-Made c = search made_number

pub returns-in-Unplanned : goal.returns-in-Unplanned
returns-in-Unplanned c = search unplanned_number
