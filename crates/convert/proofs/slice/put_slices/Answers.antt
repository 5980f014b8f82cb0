-- The loop's invariant: the slices from the owner at hand on are still to be put. The measure is the owner, since a base is smaller. Assumes nothing.
use mathlib.Core.Path.{refl}
use native.Mathlib.Omega.{arith}
use borrow.Author.Rules.{rules}
use Rattle.convert.proofs.Moving.{moving_begin, moving_end, moving_next}
use Rattle.convert.proofs.slice.put_slices.Goals as goal

pub loop-s-init : goal.loop-s-init
loop-s-init c = (refl, search moving_begin)

pub put_slice-s-requires-clause-i_le_n : goal.put_slice-s-requires-clause-i_le_n
put_slice-s-requires-clause-i_le_n c = (c.loop-s.invariant.1.within, omega arith, c.loop-s.invariant.1.placed, c.loop-s.invariant.1.short, omega (arith, c.loop-s.invariant.1.few, c.loop-s.invariant.1.below), omega arith)

pub returns-then-up-eq0 : goal.returns-then-up-eq0
returns-then-up-eq0 c = search moving_end

pub overflow_sub-o : goal.overflow_sub-o
overflow_sub-o c = omega arith

pub loop-s-smaller : goal.loop-s-smaller
loop-s-smaller c = omega arith

pub loop-s-preserved : goal.loop-s-preserved
loop-s-preserved c = (search rules, search moving_next)
