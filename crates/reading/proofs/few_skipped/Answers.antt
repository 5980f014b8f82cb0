-- The number of optionals skipped is below the bound. Assumes nothing.
use Rattle.reading.proofs.Telling.{same_walk}
use Rattle.reading.proofs.Numbering.{same_done}
use Rattle.reading.proofs.few_skipped.Goals as goal

pub returns-in-Done : goal.returns-in-Done
returns-in-Done c = search same_done

pub returns-in-Stop : goal.returns-in-Stop
returns-in-Stop c = search same_walk
