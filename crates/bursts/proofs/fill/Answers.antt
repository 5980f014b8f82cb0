-- The messages left make the rest of the lent list. Assumes nothing.
use Rattle.bursts.proofs.Putting.{putting_next}
use Rattle.bursts.proofs.fill.Goals as goal

pub loop-i-preserved : goal.loop-i-preserved
loop-i-preserved c = search putting_next
