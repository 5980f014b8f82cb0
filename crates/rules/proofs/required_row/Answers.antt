-- Its rules in turn. Assumes nothing.
use Rattle.rules.proofs.Judging.{required_tag, required_part, required_fine}
use Rattle.rules.proofs.required_row.Goals as goal

pub returns-then-row-ne0 : goal.returns-then-row-ne0
returns-then-row-ne0 c = search required_tag

pub returns-then-no_part : goal.returns-then-no_part
returns-then-no_part c = search required_part

pub returns : goal.returns
returns c = search required_fine
