-- The members left to look at decide the answer.
use Prim.Native.Nat.{◌-◌}
use Rattle.shapes.proofs.Filling.{Members}
use Rattle.shapes.proofs.are_fixed.Given as goal

abbrev pub invariant-loop-m : goal.invariant-loop-m
invariant-loop-m l = Members l.table l.t l.m (l.end - l.m)
