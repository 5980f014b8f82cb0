-- The differences are counted, then listed. Assumes nothing.
use Rattle.compare.proofs.Telling.{told_short, told_kept, told_all, told_list}
use Rattle.compare.proofs.told.Goals as goal

pub returns-then-bytes-n-clause-value_2 : goal.returns-then-bytes-n-clause-value_2
returns-then-bytes-n-clause-value_2 c = search told_short

pub returns-then-bytes-n-clause-list_after : goal.returns-then-bytes-n-clause-list_after
returns-then-bytes-n-clause-list_after c = search told_kept

pub returns-clause-value_2 : goal.returns-clause-value_2
returns-clause-value_2 c = search told_all

pub returns-clause-list_after : goal.returns-clause-list_after
returns-clause-list_after c = search told_list
