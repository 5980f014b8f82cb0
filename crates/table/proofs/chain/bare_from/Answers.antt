-- The loop's invariant: i is the first required row from row `from` on, or `end`. The measure is the number of rows left.
use native.Mathlib.Omega.{arith}
use Rattle.table.proofs.Chains.{bare_end}
use Rattle.table.proofs.chain.bare_from.Goals as goal

pub overflow_add-from : goal.overflow_add-from
overflow_add-from c = omega arith

pub required_from-i-requires-in-loop-i-clause-m_le_end : goal.required_from-i-requires-in-loop-i-clause-m_le_end
required_from-i-requires-in-loop-i-clause-m_le_end c = omega arith

pub loop-i-smaller : goal.loop-i-smaller
loop-i-smaller c = omega arith

pub returns : goal.returns
returns c = (search bare_end, omega arith)
