-- By which of the two are there. Assumes nothing.
use Rattle.matching.proofs.Judging.{bases_none, bases_one, bases_both}
use Rattle.matching.proofs.bases.Goals as goal

pub returns-then-b-eq0 : goal.returns-then-b-eq0
returns-then-b-eq0 c = search bases_none

pub returns-then-c-eq0 : goal.returns-then-c-eq0
returns-then-c-eq0 c = search bases_one

pub returns : goal.returns
returns c = search bases_both
