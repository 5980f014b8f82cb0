-- 49, for every member of a message of 1.0; a compact record; or the rest. Assumes nothing.
use Rattle.change.proofs.Plans.{plan_old, plan_none, plan_compact, plan_sliced}
use Rattle.change.proofs.planning.accepted.Goals as goal

pub returns-then-format-eq2 : goal.returns-then-format-eq2
returns-then-format-eq2 c = search plan_old

pub returns-then-format-eq0 : goal.returns-then-format-eq0
returns-then-format-eq0 c = search plan_compact

pub returns-else-format-eq0 : goal.returns-else-format-eq0
returns-else-format-eq0 c = search plan_sliced

pub returns-in-None : goal.returns-in-None
returns-in-None c = search plan_none
