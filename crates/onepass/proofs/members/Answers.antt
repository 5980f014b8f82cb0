-- The members left decide the answer, and the tags before are below `above`; so they are after the plain rows. Assumes nothing.
use native.Mathlib.Omega.{arith}
use Rattle.std.proofs.Common.{refl}
use Rattle.onepass.proofs.Passing.{usual_begin, usual_plain, usual_step, usual_end}
use Rattle.onepass.proofs.members.Goals as goal

pub loop-m-init : goal.loop-m-init
loop-m-init c = usual_plain _ _ _ c.requires.o_bound _ (usual_begin _ (omega arith) (omega arith) _ _ (λ i. omega (arith, c.type_inv.table i)) c.requires.type_row) _ _ c.plain_members-k.ensures refl _ (omega arith)

pub loop-m-preserved : goal.loop-m-preserved
loop-m-preserved c = search usual_step

pub returns : goal.returns
returns c = λ h. search usual_end
