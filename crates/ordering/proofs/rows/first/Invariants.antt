-- The loop's invariant: the search goes on from row i. Assumes nothing.
use Rattle.std.proofs.Common.{ℕ, Bool}
use Rattle.ordering.specs.Ordering.{Tests}
use Rattle.ordering.proofs.Naming.{Finding}
use Rattle.ordering.proofs.rows.first.Given as goal

abbrev pub invariant-loop-i : goal.invariant-loop-i
invariant-loop-i g l = (f : ℕ → Bool) → Tests (λ i r. goal.F-post g l.passes i r) f l.end → Finding f l.m l.end l.i
