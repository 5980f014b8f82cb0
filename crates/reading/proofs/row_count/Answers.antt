-- Each arm gives what `row_count` gives of its case. Assumes nothing.
use Rattle.reading.proofs.Telling.{count_done, count_stop}
use Rattle.reading.proofs.row_count.Goals as goal

pub returns-in-Done : goal.returns-in-Done
returns-in-Done c = search count_done

pub returns-in-Stop : goal.returns-in-Stop
returns-in-Stop c = search count_stop
