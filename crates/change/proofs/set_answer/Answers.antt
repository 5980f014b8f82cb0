-- The plan, answered. Assumes nothing.
use Rattle.change.proofs.Plans.{set_fits, set_told}
use Rattle.change.proofs.set_answer.Goals as goal

pub answered-requires : goal.answered-requires
answered-requires c = set_fits _ _ _ _ _ _ c.plan-p.ensures

pub returns : goal.returns
returns c = set_told _ _ _ _ _ _ c.plan-p.ensures _ _ c.answered.ensures
