-- The plan, answered. Assumes nothing.
use Rattle.change.proofs.Plans.{remove_fits, remove_told}
use Rattle.change.proofs.remove_answer.Goals as goal

pub answered-requires : goal.answered-requires
answered-requires c = remove_fits _ _ _ _ _ c.plan-p.ensures

pub returns : goal.returns
returns c = remove_told _ _ _ _ _ c.plan-p.ensures _ _ c.answered.ensures
