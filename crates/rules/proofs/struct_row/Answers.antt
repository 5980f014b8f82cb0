-- Its rules in turn. Assumes nothing.
use Rattle.rules.proofs.Judging.{struct_first, struct_empty, struct_fine}
use Rattle.rules.proofs.struct_row.Goals as goal

pub returns-then-row-prior : goal.returns-then-row-prior
returns-then-row-prior c = search struct_first

pub returns-then-row-eq0 : goal.returns-then-row-eq0
returns-then-row-eq0 c = search struct_empty

pub returns : goal.returns
returns c = search struct_fine
