-- The member is compared, then the bytes are judged. Assumes nothing.
use native.Mathlib.Omega.{arith}
use Rattle.pieces.proofs.Fields.{due_other, due_wrong, due_right, part_small}
use Rattle.pieces.proofs.judge.due.Goals as goal

pub returns-then-row-m : goal.returns-then-row-m
returns-then-row-m c = (search due_other, omega arith)

pub returns-then-fault-ne0 : goal.returns-then-fault-ne0
returns-then-fault-ne0 c = (search due_wrong, omega arith)

pub overflow_add-result : goal.overflow_add-result
overflow_add-result c = omega (arith, part_small _ _ _ _ c.part_form-fault.ensures c.if-fault-ne0.false c.requires.at_bound.2)

pub returns : goal.returns
returns c = due_right _ _ _ _ _ _ c.row_in-row.ensures _ _ _ c.requires.all_value.2 c.if-row-m.false _ _ c.type_of-t.ensures c.part_form-fault.ensures c.if-fault-ne0.false c.requires.at_bound.2 _
