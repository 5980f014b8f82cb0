-- The loop's invariant: the answer and the list follow from the rows that are left. The measure is their number. Assumes nothing.
use Prim.Native.Nat.{◌+◌, ◌-◌, ◌^◌, ◌<◌}
use lib.ListN.{length}
use Rattle.level.specs.Due.{Due}
use Rattle.level.proofs.required.Given as goal

abbrev pub invariant-loop-m : goal.invariant-loop-m
invariant-loop-m l = (l.at + length l.s < 2 ^ 63) × (l.count < 2 ^ 63) × Due l.old l.table l.t l.at l.count l.s l.initial.out l.m l.end l.pos l.k l.next l.out

abbrev pub decreases-loop-m : goal.decreases-loop-m
decreases-loop-m l = l.end - l.m
