-- The rows below t have their shapes, and after them comes 10.
use Rattle.shapes.proofs.Filling.{Filling}
use Rattle.shapes.proofs.fill.Given as goal

abbrev pub invariant-loop-t : goal.invariant-loop-t
invariant-loop-t l = Filling l.table l.shapes l.t
