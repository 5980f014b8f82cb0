-- By the answer. Assumes nothing.
use Rattle.numbers.proofs.Planning.{accepted_place, broken_place}
use Rattle.numbers.proofs.checked_place.Goals as goal

pub returns-in-Sound : goal.returns-in-Sound
returns-in-Sound c = search accepted_place

pub returns-in-Breaks : goal.returns-in-Breaks
returns-in-Breaks c = search broken_place
