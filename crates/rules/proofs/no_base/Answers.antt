-- By the row's number, then by the two kinds. Assumes nothing.
use Rattle.rules.proofs.Judging.{base_free, base_over, base_kinds}
use Rattle.rules.proofs.no_base.Goals as goal

pub returns-then-b-eq0 : goal.returns-then-b-eq0
returns-then-b-eq0 c = search base_free

pub returns-then-t-b : goal.returns-then-t-b
returns-then-t-b c = search base_over

pub returns : goal.returns
returns c = search base_kinds
