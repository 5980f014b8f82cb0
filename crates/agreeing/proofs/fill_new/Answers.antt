-- The loop's invariant: the cells of the old table and those of the new one's indexes below y are there. Assumes nothing.
use Rattle.agreeing.proofs.Cells.{filled_begin, filled_ranked, filled_alike, weighed_all, filled_next, filled_end}
use borrow.Author.Rules.{rules}
use Rattle.agreeing.proofs.fill_new.Goals as goal

pub loop-y-init : goal.loop-y-init
loop-y-init c = search filled_begin

pub weight-w-requires-clause-ranked : goal.weight-w-requires-clause-ranked
weight-w-requires-clause-ranked c = search filled_ranked

pub first-c-requires-clause-alike : goal.first-c-requires-clause-alike
first-c-requires-clause-alike c = search filled_alike

pub first-c-requires-clause-weighed : goal.first-c-requires-clause-weighed
first-c-requires-clause-weighed c = (search weighed_all, search rules)

pub loop-y-preserved : goal.loop-y-preserved
loop-y-preserved c = search filled_next

pub returns : goal.returns
returns c = search filled_end
