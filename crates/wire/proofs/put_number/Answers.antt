-- The bytes of a number are laid one by one, the lowest first.
use Rattle.wire.proofs.Writes.{number_begin, number_turn, number_end, number_over}
use Rattle.wire.proofs.put_number.Goals as goal

pub loop-i-init : goal.loop-i-init
loop-i-init c = search number_begin

pub loop-i-preserved : goal.loop-i-preserved
loop-i-preserved c = search number_turn

pub returns-after-loop-i : goal.returns-after-loop-i
returns-after-loop-i c = search number_end

pub returns-else-fits : goal.returns-else-fits
returns-else-fits c = search number_over
