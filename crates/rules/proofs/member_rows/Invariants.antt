-- Where the member rows of each owner are there, the owners left decide the answer. Assumes nothing.
use Rattle.rules.proofs.Judging.{Owners}
use Rattle.rules.proofs.member_rows.Given as goal

abbrev pub invariant-loop-o : goal.invariant-loop-o
invariant-loop-o l = Owners l.table l.n l.o
