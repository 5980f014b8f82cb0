-- The loop's invariant: the rows from the next on give the pieces still to be put. Assumes nothing.
use Rattle.std.proofs.Common.{ap, ◌∙◌, Ok}
use borrow.Author.Rules.{rules}
use mathlib.Core.Path.{refl}
use native.Mathlib.Omega.{arith}
use Rattle.writer.proofs.Groups.{grouping_begin, tags_next, tags_small, tags_wrong, tags_stop, tags_end}
use Rattle.writer.proofs.slice.put_optionals.Goals as goal

pub loop-i-init : goal.loop-i-init
loop-i-init c = (refl, grouping_begin _ _ _ _ _ _ _ _ _ _ c.requires.start_bound.1)

pub put_may-requires-clause-at_bound : goal.put_may-requires-clause-at_bound
put_may-requires-clause-at_bound c = (omega (arith, c.loop-i.invariant.1.few, c.loop-i.invariant.1.within, c.requires.start_bound.0, c.requires.start_bound.2), omega (arith, c.loop-i-test.true, c.requires.start_bound.2), c.requires.start_bound.3)

pub overflow_add-least : goal.overflow_add-least
overflow_add-least c = omega (arith, tags_small _ _ _ _ _ _ _ _ _ _ _ _ _ _ _ c.loop-i.invariant.1 c.loop-i-test.true _ _ c.put_may.ensures _ (c.in-Ok.is ∙ ap Ok c.in-Some.is))

pub loop-i-preserved : goal.loop-i-preserved
loop-i-preserved c = (search rules, tags_next _ _ _ _ _ _ _ _ _ _ _ _ _ _ _ c.loop-i.invariant.1 c.loop-i-test.true _ _ c.put_may.ensures _ (c.in-Ok.is ∙ ap Ok c.in-Some.is))

pub returns-in-None : goal.returns-in-None
returns-in-None c = rw c.laid_of-in-None.ensures (tags_stop _ _ _ _ _ _ _ _ _ _ _ _ _ _ _ c.loop-i.invariant.1 c.loop-i-test.true _ _ c.put_may.ensures (c.in-Ok.is ∙ ap Ok c.in-None.is))

pub returns-in-Err : goal.returns-in-Err
returns-in-Err c = rw c.laid_of.ensures (tags_wrong _ _ _ _ _ _ _ _ _ _ _ _ _ _ _ c.loop-i.invariant.1 c.loop-i-test.true _ _ c.put_may.ensures _ c.in-Err.is)

pub returns : goal.returns
returns c = rw c.laid_of-2.ensures (tags_end _ _ _ _ _ _ _ _ _ _ _ _ _ _ _ c.loop-i.invariant.1 c.loop-i-test.false)
