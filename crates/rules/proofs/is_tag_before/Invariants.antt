-- The rows left decide the answer. Assumes nothing.
use Rattle.rules.proofs.Judging.{Tags}
use Rattle.rules.proofs.is_tag_before.Given as goal

abbrev pub invariant-loop-i : goal.invariant-loop-i
invariant-loop-i l = Tags l.table l.first l.m l.tag l.i
