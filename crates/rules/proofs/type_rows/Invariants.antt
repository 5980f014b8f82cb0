-- The rows left decide the answer, `prior` is what the rows before t take, and no row before `from` is a record. Assumes nothing.
use Rattle.rules.proofs.Judging.{Types}
use Rattle.rules.proofs.type_rows.Given as goal

abbrev pub invariant-loop-t : goal.invariant-loop-t
invariant-loop-t l = Types l.table l.n l.t l.prior l.from
