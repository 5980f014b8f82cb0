-- Owners and bases match. Assumes nothing.
use Rattle.matching.proofs.Judging.{by_none, by_bases, by_not}
use Rattle.matching.proofs.matched_by.Goals as goal

pub returns-then-owners : goal.returns-then-owners
returns-then-owners c = search by_bases

pub returns-else-owners : goal.returns-else-owners
returns-else-owners c = search by_not

pub returns-in-None : goal.returns-in-None
returns-in-None c = search by_none
