-- By the element: none below, bool or byte, or fixed_size.
use borrow.Author.Rules.{rules}
use Rattle.shapes.proofs.Filling.{seq_broken, seq_single, seq_other}
use Rattle.shapes.proofs.seq_shape.Goals as goal

pub returns-then-t-i : goal.returns-then-t-i
returns-then-t-i c = search (rules, seq_broken, seq_single, seq_other)

pub returns-then-kind-le1 : goal.returns-then-kind-le1
returns-then-kind-le1 c = search (rules, seq_broken, seq_single, seq_other)

pub returns : goal.returns
returns c = search (rules, seq_broken, seq_single, seq_other)
