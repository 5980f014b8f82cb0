-- No message is left, or only one that is short. Assumes nothing.
use borrow.Author.Rules.{rules}
use Rattle.bursts.proofs.Looking.{seeking_even, seeking_none}
use Rattle.bursts.proofs.too_long.Goals.{else-n-eq1-via-then-n-eq1+else-messages-n-gt340, else-n-eq1-via-else-n-eq1}
use Rattle.bursts.proofs.too_long.Goals as goal

pub returns : goal.returns
returns c = elim c.else-n-eq1.branch [ else-n-eq1-via-then-n-eq1+else-messages-n-gt340 w ↦ search (seeking_none, rules) | else-n-eq1-via-else-n-eq1 w ↦ search (seeking_even, rules) ]
