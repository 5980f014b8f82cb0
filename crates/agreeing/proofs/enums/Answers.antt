-- If both rows have a list, `lists` compares them; if one has, they differ; else the greatest numbers are compared. Assumes nothing.
use Rattle.agreeing.proofs.Cells.{enums_listed, enums_one, enums_other, enums_all}
use Rattle.agreeing.proofs.enums.Goals as goal

pub returns-then-is_listed-2 : goal.returns-then-is_listed-2
returns-then-is_listed-2 c = search enums_listed

pub returns-then-is_listed : goal.returns-then-is_listed
returns-then-is_listed c = search enums_one

pub returns-then-is_listed-3 : goal.returns-then-is_listed-3
returns-then-is_listed-3 c = search enums_other

pub returns : goal.returns
returns c = search enums_all
