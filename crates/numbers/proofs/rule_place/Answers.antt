-- By the verdict. Assumes nothing.
use Rattle.numbers.proofs.Judged.{sound_place, broken_place}
use Rattle.numbers.proofs.rule_place.Goals as goal

pub returns-in-Sound : goal.returns-in-Sound
returns-in-Sound c = search sound_place

pub returns-in-Broken : goal.returns-in-Broken
returns-in-Broken c = search broken_place
