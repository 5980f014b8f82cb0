-- The loop's invariant: all records match exactly if those from row t on do. Assumes nothing.
use Rattle.matching.proofs.Judging.{AllTo}
use Rattle.matching.proofs.all_matched.Given as goal

abbrev pub invariant-loop-t : goal.invariant-loop-t
invariant-loop-t l = AllTo l.old l.new l.n l.t
