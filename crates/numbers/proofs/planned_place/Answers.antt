-- By the answer. Assumes nothing.
use Rattle.numbers.proofs.Planning.{made_place, unplanned_place}
use Rattle.numbers.proofs.planned_place.Goals as goal

pub returns-in-Made : goal.returns-in-Made
returns-in-Made c = search made_place

pub returns-in-Unplanned : goal.returns-in-Unplanned
returns-in-Unplanned c = search unplanned_place
