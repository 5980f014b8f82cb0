-- The refusal of the plan, 22, or the length. Assumes nothing.
use Rattle.change.proofs.Plans.{fits_cuts, fits_few, fits_number, fits_place, told_stop, told_long, told_room, told_made}
use Rattle.change.proofs.answered.Goals as goal

pub size_after-n-requires-clause-cuts : goal.size_after-n-requires-clause-cuts
size_after-n-requires-clause-cuts c = search fits_cuts

pub size_after-n-requires-clause-n_bound : goal.size_after-n-requires-clause-n_bound
size_after-n-requires-clause-n_bound c = search fits_few

pub returns-then-n-gt65536 : goal.returns-then-n-gt65536
returns-then-n-gt65536 c = search told_long

pub returns-then-room-n : goal.returns-then-room-n
returns-then-room-n c = search told_room

pub overflow_cast-result-in-Stop : goal.overflow_cast-result-in-Stop
overflow_cast-result-in-Stop c = search fits_number

pub overflow_cast-result-in-Stop-2 : goal.overflow_cast-result-in-Stop-2
overflow_cast-result-in-Stop-2 c = search fits_place

pub returns-else-room-n : goal.returns-else-room-n
returns-else-room-n c = search told_made

pub returns-in-Stop : goal.returns-in-Stop
returns-in-Stop c = search told_stop
