-- By the mark. Assumes nothing.
use Rattle.matching.proofs.Judging.{optional_none, optional_is}
use Rattle.matching.proofs.optional.Goals as goal

pub returns-then-row-eq0 : goal.returns-then-row-eq0
returns-then-row-eq0 c = search optional_none

pub returns : goal.returns
returns c = search optional_is
