-- By its one rule. Assumes nothing.
use Rattle.rules.proofs.Judging.{enum_great, enum_fine}
use Rattle.rules.proofs.enum_row.Goals as goal

pub returns-then-greatest-ge2147483648 : goal.returns-then-greatest-ge2147483648
returns-then-greatest-ge2147483648 c = search enum_great

pub returns : goal.returns
returns c = search enum_fine
