-- Its rules in turn. Assumes nothing.
use Rattle.rules.proofs.Judging.{allowed_other, allowed_first, allowed_outside, allowed_falls, allowed_fine}
use Rattle.rules.proofs.allowed_row.Goals as goal

pub returns-then-row-ne8 : goal.returns-then-row-ne8
returns-then-row-ne8 c = search allowed_other

pub returns-then-row-prior : goal.returns-then-row-prior
returns-then-row-prior c = search allowed_first

pub returns-then-all-row : goal.returns-then-all-row
returns-then-all-row c = search allowed_outside

pub returns-then-not-rises_to : goal.returns-then-not-rises_to
returns-then-not-rises_to c = search allowed_falls

pub returns : goal.returns
returns c = search allowed_fine
