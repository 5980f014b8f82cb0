-- The plan, carried out. Assumes nothing.
use Rattle.change.proofs.Plans.{remove_fits, remove_told, remove_put}
use Rattle.change.proofs.remove.Goals as goal

pub finished-requires : goal.finished-requires
finished-requires c = remove_fits _ _ _ _ _ c.plan-p.ensures

pub returns-clause-value : goal.returns-clause-value
returns-clause-value c = remove_told _ _ _ _ _ c.plan-p.ensures _ _ c.finished.ensures.by_index

pub returns-clause-out_after : goal.returns-clause-out_after
returns-clause-out_after c = remove_put _ _ _ _ _ c.plan-p.ensures _ _ _ c.finished.ensures.by_index_2
