-- The loop's invariant: all rows match exactly if those left do. Assumes nothing.
use Rattle.matching.proofs.Judging.{every_begin, every_end, every_not, every_next}
use Rattle.matching.proofs.every.Goals as goal

pub loop-i-init : goal.loop-i-init
loop-i-init c = search every_begin

pub returns-then-not-optional : goal.returns-then-not-optional
returns-then-not-optional c = search every_not

pub loop-i-preserved : goal.loop-i-preserved
loop-i-preserved c = search every_next

pub returns : goal.returns
returns c = search every_end
