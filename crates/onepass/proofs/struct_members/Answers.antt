-- The members left decide whether a rule is broken, and with what was found the shape. Assumes nothing.
use native.Mathlib.Omega.{arith}
use Rattle.onepass.proofs.Passing.{structs_begin, structs_next, structs_end}
use Rattle.onepass.proofs.struct_members.Goals as goal

pub loop-m-init : goal.loop-m-init
loop-m-init c = structs_begin _ _ _ (λ i. omega (arith, c.type_inv.table i)) c.requires.type_row c.requires.kind_value.0

pub loop-m-preserved : goal.loop-m-preserved
loop-m-preserved c = search structs_next

pub returns : goal.returns
returns c = search structs_end
