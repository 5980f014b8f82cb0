-- 47, 48 and 22 in turn. Assumes nothing.
use native.Mathlib.Omega.{arith}
use Rattle.convert.proofs.Growing.{narrow_first, narrow_len, plan_stop, plan_sliced, plan_optionals, plan_slices, plan_over, plan_room, plan_fits}
use Rattle.convert.proofs.planning.plan.Goals as goal

pub returns-then-format-ne0 : goal.returns-then-format-ne0
returns-then-format-ne0 c = search plan_sliced

pub returns-then-optionals-ne0 : goal.returns-then-optionals-ne0
returns-then-optionals-ne0 c = search plan_optionals

pub returns-then-slices-ne0 : goal.returns-then-slices-ne0
returns-then-slices-ne0 c = search plan_slices

pub growth-requires-clause-t_bound : goal.growth-requires-clause-t_bound
growth-requires-clause-t_bound c = search narrow_first

pub overflow_add-needed : goal.overflow_add-needed
overflow_add-needed c = omega (arith, narrow_len _ _ _ _ _ _ _ _ c.in-Done.is c.requires.narrow)

pub returns-then-needed-gt65536 : goal.returns-then-needed-gt65536
returns-then-needed-gt65536 c = search plan_over

pub returns-then-room-needed : goal.returns-then-room-needed
returns-then-room-needed c = search plan_room

pub returns-in-Stop : goal.returns-in-Stop
returns-in-Stop c = search plan_stop

pub returns-else-room-needed : goal.returns-else-room-needed
returns-else-room-needed c = search plan_fits
