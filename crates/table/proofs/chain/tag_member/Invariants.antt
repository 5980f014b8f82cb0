-- Rows inside are read without a test. The loop's invariant: the members left to look at decide the answer.
use Rattle.table.proofs.Chains.{Optionals}
use Rattle.table.proofs.chain.tag_member.Given as goal

abbrev pub invariant-loop-m : goal.invariant-loop-m
invariant-loop-m l = Optionals l.table l.end l.from l.tag l.m
