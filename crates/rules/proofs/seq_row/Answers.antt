-- By its one rule. Assumes nothing.
use Rattle.rules.proofs.Judging.{seq_broken, seq_fine}
use Rattle.rules.proofs.seq_row.Goals as goal

pub returns-then-no_part : goal.returns-then-no_part
returns-then-no_part c = search seq_broken

pub returns : goal.returns
returns c = search seq_fine
