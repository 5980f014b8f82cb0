-- The loop's invariant: no index below x agrees. Assumes nothing.
use Rattle.agreeing.proofs.Cells.{first_broken, passed_begin, passed_found, passed_next, passed_end, alike_upto, weighed_upto}
use borrow.Author.Rules.{rules}
use Rattle.agreeing.proofs.first.Goals as goal

pub returns-then-k-eq13 : goal.returns-then-k-eq13
returns-then-k-eq13 c = search first_broken

pub loop-x-init : goal.loop-x-init
loop-x-init c = search passed_begin

pub agrees-requires-clause-alike : goal.agrees-requires-clause-alike
agrees-requires-clause-alike c = search alike_upto

pub agrees-requires-clause-weighed : goal.agrees-requires-clause-weighed
agrees-requires-clause-weighed c = (search weighed_upto, search rules)

pub returns-then-agrees : goal.returns-then-agrees
returns-then-agrees c = search passed_found

pub loop-x-preserved : goal.loop-x-preserved
loop-x-preserved c = search passed_next

pub returns : goal.returns
returns c = search passed_end
