-- By its one rule. Assumes nothing.
use Rattle.rules.proofs.Judging.{list_first, list_fine}
use Rattle.rules.proofs.list_row.Goals as goal

pub returns-then-row-prior : goal.returns-then-row-prior
returns-then-row-prior c = search list_first

pub returns : goal.returns
returns c = search list_fine
