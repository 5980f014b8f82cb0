-- The message is refused, the member is of another chain, or its row is among those of the walk's list, which are the message's. Assumes nothing.
use Rattle.reading.proofs.Telling.{unasked, old_unasked}
use Rattle.view.proofs.Seeing.{look_few, look_seen, look_inside, look_other, look_refused, nothing_inside, refused_inside}
use Rattle.view.proofs.look_by.Goals as goal

pub walk-w-requires-clause-lent : goal.walk-w-requires-clause-lent
walk-w-requires-clause-lent c = search unasked

pub walk-w-requires-clause-old_use : goal.walk-w-requires-clause-old_use
walk-w-requires-clause-old_use c = search old_unasked

pub seek-requires : goal.seek-requires
seek-requires c = search look_few

pub returns-then-of_chain : goal.returns-then-of_chain
returns-then-of_chain c = record { value = search look_seen; part_inside = search look_inside }

pub returns-else-of_chain : goal.returns-else-of_chain
returns-else-of_chain c = record { value = search look_other; part_inside = search nothing_inside }

pub returns-in-Stop : goal.returns-in-Stop
returns-in-Stop c = record { value = search look_refused; part_inside = search refused_inside }
