-- The loop's invariant: the answer and the list follow from the rows that are left, and rows put over those that were put make the list as it was. Assumes nothing.
use mathlib.Core.Bool.{false}
use Prim.Native.Nat.{◌+◌, ◌^◌, ◌<◌}
use lib.ListN.{length}
use Rattle.level.specs.Due.{Due}
use Rattle.level.specs.FillLaws.{Covered}
use Rattle.level.proofs.simples.Given as goal

abbrev pub invariant-loop-m : goal.invariant-loop-m
invariant-loop-m l =
    (l.at + length l.s < 2 ^ 63) × (l.count < 2 ^ 63) × Due false l.table l.t l.at l.count l.s l.initial.out l.m l.end l.pos l.k l.end l.out × Covered l.count l.k l.out l.initial.out
