-- The loop's invariant: all rows match exactly if those left do. Assumes nothing.
use Rattle.matching.proofs.Judging.{Every}
use Rattle.matching.proofs.every.Given as goal

abbrev pub invariant-loop-i : goal.invariant-loop-i
invariant-loop-i l = Every l.old l.new l.u l.m l.n l.i
