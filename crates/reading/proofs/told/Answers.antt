-- Each arm gives what `told_of` gives of its case. Assumes nothing.
use Rattle.reading.proofs.Telling.{told_done, told_short, told_stop}
use Rattle.reading.proofs.told.Goals as goal

pub returns-then-n-k : goal.returns-then-n-k
returns-then-n-k c = search told_done

pub returns-else-n-k : goal.returns-else-n-k
returns-else-n-k c = search told_short

pub returns-in-Stop : goal.returns-in-Stop
returns-in-Stop c = search told_stop
