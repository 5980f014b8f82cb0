-- The loop's invariant: the cells of the indexes below x are there. Assumes nothing.
use Rattle.agreeing.proofs.Cells.{own_begin, own_alike, own_ranked, own_next, own_end, weighed_begin, weighed_next, weighed_end}
use Rattle.agreeing.proofs.fill_old.Goals as goal

pub loop-x-init : goal.loop-x-init
loop-x-init c = (search own_begin, search weighed_begin)

pub weight-w-requires-clause-ranked : goal.weight-w-requires-clause-ranked
weight-w-requires-clause-ranked c = search own_ranked

pub first-c-requires-clause-alike : goal.first-c-requires-clause-alike
first-c-requires-clause-alike c = search own_alike

pub loop-x-preserved : goal.loop-x-preserved
loop-x-preserved c = (search own_next, search weighed_next)

pub returns-clause-firsts : goal.returns-clause-firsts
returns-clause-firsts c = search own_end

pub returns-clause-weighed : goal.returns-clause-weighed
returns-clause-weighed c = search weighed_end
