-- By the format, then by the rows. Assumes nothing.
use Rattle.prepare.proofs.Checking.{old_other, old_two}
use Rattle.prepare.proofs.no_old.Goals as goal

pub returns-then-format-ne2 : goal.returns-then-format-ne2
returns-then-format-ne2 c = search old_other

pub returns : goal.returns
returns c = search old_two
