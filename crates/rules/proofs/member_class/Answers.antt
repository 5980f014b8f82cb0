-- The rule of every member row, then those of its mark. Assumes nothing.
use Rattle.rules.proofs.Judging.{member_spare_lem, member_required, member_optional}
use Rattle.rules.proofs.member_class.Goals as goal

pub returns-then-row-ne0 : goal.returns-then-row-ne0
returns-then-row-ne0 c = search member_spare_lem

pub returns-then-row-eq0 : goal.returns-then-row-eq0
returns-then-row-eq0 c = search member_required

pub returns : goal.returns
returns c = search member_optional
