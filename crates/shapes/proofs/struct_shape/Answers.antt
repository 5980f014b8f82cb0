-- By the width, or by whether the members are fixed_size.
use native.Mathlib.Omega.{arith}
use Rattle.shapes.proofs.Filling.{struct_wide, struct_other}
use Rattle.shapes.proofs.struct_shape.Goals as goal

pub overflow_add-result : goal.overflow_add-result
overflow_add-result c = omega arith

pub overflow_cast-result : goal.overflow_cast-result
overflow_cast-result c = omega arith

pub returns-then-w-ne0 : goal.returns-then-w-ne0
returns-then-w-ne0 c = search struct_wide

pub returns : goal.returns
returns c = search struct_other
