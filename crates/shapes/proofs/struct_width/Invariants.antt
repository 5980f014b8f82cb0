-- The sum so far and the members left to look at decide the answer.
use Prim.Native.Nat.{◌-◌}
use Rattle.shapes.proofs.Filling.{Widths}
use Rattle.shapes.proofs.struct_width.Given as goal

abbrev pub invariant-loop-m : goal.invariant-loop-m
invariant-loop-m l = Widths l.table l.t l.m (l.end - l.m) l.sum
