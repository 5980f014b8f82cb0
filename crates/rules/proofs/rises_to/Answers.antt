-- The entries left rise from the last one. Assumes nothing.
use Rattle.rules.proofs.Judging.{rise_none, rise_begin, rise_stop, rise_next, rise_end}
use Rattle.rules.proofs.rises_to.Goals as goal

pub returns-then-d-eq0 : goal.returns-then-d-eq0
returns-then-d-eq0 c = search rise_none

pub loop-i-init : goal.loop-i-init
loop-i-init c = search rise_begin

pub returns-then-x-last : goal.returns-then-x-last
returns-then-x-last c = search rise_stop

pub loop-i-preserved : goal.loop-i-preserved
loop-i-preserved c = search rise_next

pub returns : goal.returns
returns c = search rise_end
