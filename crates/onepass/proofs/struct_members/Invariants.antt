-- The members left decide whether a rule is broken, and with what was found the shape. Assumes nothing.
use Rattle.onepass.proofs.Passing.{StructMembers}
use Rattle.onepass.proofs.struct_members.Given as goal

abbrev pub invariant-loop-m : goal.invariant-loop-m
invariant-loop-m l = StructMembers l.table l.t l.m l.end l.sum l.wide l.fixed
