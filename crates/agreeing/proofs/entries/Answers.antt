-- The loop's invariant: the entries agree exactly if those left do. Assumes nothing.
use Rattle.agreeing.proofs.Cells.{lists_begin, lists_end, lists_not, lists_next}
use Rattle.agreeing.proofs.entries.Goals as goal

pub loop-k-init : goal.loop-k-init
loop-k-init c = search lists_begin

pub returns-then-not-same_entry : goal.returns-then-not-same_entry
returns-then-not-same_entry c = search lists_not

pub loop-k-preserved : goal.loop-k-preserved
loop-k-preserved c = search lists_next

pub returns : goal.returns
returns c = search lists_end
