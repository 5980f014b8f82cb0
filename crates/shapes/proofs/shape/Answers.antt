-- In the array, or past its end.
use borrow.Author.Rules.{rules}
use Rattle.shapes.proofs.Filling.{shape_here, shape_past}
use Rattle.shapes.proofs.shape.Goals as goal

pub returns-then-t-lt256 : goal.returns-then-t-lt256
returns-then-t-lt256 c = search (rules, shape_here, shape_past)

pub returns : goal.returns
returns c = search (rules, shape_here, shape_past)
