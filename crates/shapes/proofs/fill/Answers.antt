-- The rows below t have their shapes, and after them comes 10.
use borrow.Author.Rules.{rules}
use Rattle.shapes.proofs.Filling.{filling_begin, filling_end}
use Rattle.shapes.proofs.fill.Goals as goal

pub loop-t-init : goal.loop-t-init
loop-t-init c = search (rules, filling_begin)

pub returns : goal.returns
returns c = search (rules, filling_end)
