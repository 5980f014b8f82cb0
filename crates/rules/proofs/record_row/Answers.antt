-- Its rules in turn. Assumes nothing.
use Rattle.rules.proofs.Judging.{record_base, record_first, record_empty, record_long, record_outside, record_alike, record_other, record_fine}
use Rattle.rules.proofs.record_row.Goals as goal

pub returns-then-no_base : goal.returns-then-no_base
returns-then-no_base c = search record_base

pub returns-then-row-prior : goal.returns-then-row-prior
returns-then-row-prior c = search record_first

pub returns-then-row-eq0 : goal.returns-then-row-eq0
returns-then-row-eq0 c = search record_empty

pub returns-then-row-gt-LONGEST_NAME : goal.returns-then-row-gt-LONGEST_NAME
returns-then-row-gt-LONGEST_NAME c = search record_long

pub returns-then-names-row : goal.returns-then-names-row
returns-then-names-row c = search record_outside

pub returns-then-alike : goal.returns-then-alike
returns-then-alike c = search record_alike

pub returns-then-is_name_text : goal.returns-then-is_name_text
returns-then-is_name_text c = search record_fine

pub returns : goal.returns
returns c = search record_other
