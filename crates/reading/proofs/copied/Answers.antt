-- The rows are put, or do not fit. Assumes nothing.
use Rattle.reading.proofs.Telling.{copy_fits, copy_short}
use Rattle.reading.proofs.copied.Goals as goal

pub returns-then-count-rows-clause-rows_after : goal.returns-then-count-rows-clause-rows_after
returns-then-count-rows-clause-rows_after c = search copy_fits

pub returns-else-count-rows-clause-rows_after : goal.returns-else-count-rows-clause-rows_after
returns-else-count-rows-clause-rows_after c = search copy_short
