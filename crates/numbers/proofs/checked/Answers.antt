-- By the answer. Assumes nothing.
use Rattle.numbers.proofs.Planning.{accepted_number, broken_number}
use Rattle.numbers.proofs.checked.Goals as goal

pub returns-in-Sound : goal.returns-in-Sound
returns-in-Sound c = search accepted_number

pub returns-in-Breaks : goal.returns-in-Breaks
returns-in-Breaks c = search broken_number
