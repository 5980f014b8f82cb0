-- Its rules in turn. Assumes nothing.
use Rattle.rules.proofs.Judging.{dict_key, dict_value, dict_fine}
use Rattle.rules.proofs.dict_row.Goals as goal

pub returns-then-no_part : goal.returns-then-no_part
returns-then-no_part c = search dict_key

pub returns-then-no_part-2 : goal.returns-then-no_part-2
returns-then-no_part-2 c = search dict_value

pub returns : goal.returns
returns c = search dict_fine
