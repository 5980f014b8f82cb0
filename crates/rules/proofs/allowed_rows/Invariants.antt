-- The rows left decide the answer, and `prior` is what the lists before row t take. Assumes nothing.
use Rattle.rules.proofs.Judging.{Lists}
use Rattle.rules.proofs.allowed_rows.Given as goal

abbrev pub invariant-loop-t : goal.invariant-loop-t
invariant-loop-t l = Lists l.table l.n l.t l.prior
