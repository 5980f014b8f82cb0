-- Its rules in turn. Assumes nothing.
use Rattle.rules.proofs.Judging.{optional_part, optional_mark, optional_struct, optional_great, optional_alike, optional_fine}
use Rattle.rules.proofs.optional_row.Goals as goal

pub returns-then-no_part : goal.returns-then-no_part
returns-then-no_part c = search optional_part

pub returns-then-row-gt1 : goal.returns-then-row-gt1
returns-then-row-gt1 c = search optional_mark

pub returns-then-owner-eq9 : goal.returns-then-owner-eq9
returns-then-owner-eq9 c = search optional_struct

pub returns-then-row-ge2147483648 : goal.returns-then-row-ge2147483648
returns-then-row-ge2147483648 c = search optional_great

pub returns-then-is_tag_alike : goal.returns-then-is_tag_alike
returns-then-is_tag_alike c = search optional_alike

pub returns : goal.returns
returns c = search optional_fine
