-- By key and value in turn.
use borrow.Author.Rules.{rules}
use borrow.Author.Tests.{not-true, not-false}
use Rattle.shapes.proofs.Filling.{dict_not, dict_other}
use Rattle.shapes.proofs.dict_shape.Goals as goal

pub returns-then-not-is_fixed : goal.returns-then-not-is_fixed
returns-then-not-is_fixed c = search (rules, dict_not, not-true, dict_other, not-false)

pub returns : goal.returns
returns c = search (rules, dict_not, not-true, dict_other, not-false)
