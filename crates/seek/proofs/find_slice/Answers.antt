-- The loop's invariant: the slices from the place at hand on decide the answer. The measure is the bytes left.
use Rattle.seek.proofs.Seeking.{seeks_end, seeks_none, seeks_here, seeks_next}
use Rattle.seek.proofs.find_slice.Goals as goal

pub returns-then-is_named-clause-value : goal.returns-then-is_named-clause-value
returns-then-is_named-clause-value c = search seeks_here

pub loop-at-preserved : goal.loop-at-preserved
loop-at-preserved c = search seeks_next

pub returns-in-None-clause-value : goal.returns-in-None-clause-value
returns-in-None-clause-value c = search seeks_none

pub returns-clause-value : goal.returns-clause-value
returns-clause-value c = search seeks_end
