-- The rules of every row in turn, then those of the row's kind. Assumes nothing.
use borrow.Author.Rules.{rules}
use Rattle.rules.proofs.Judging.{row_spare, row_unused, row_unknown, row_known}
use Rattle.rules.proofs.type_class.Goals as goal

pub returns-then-row-ne0 : goal.returns-then-row-ne0
returns-then-row-ne0 c = search (rules, row_spare)

pub returns-then-is_unused_set : goal.returns-then-is_unused_set
returns-then-is_unused_set c = search (rules, row_unused)

pub returns-then-row-gt15 : goal.returns-then-row-gt15
returns-then-row-gt15 c = search (rules, row_unknown)

pub returns : goal.returns
returns c = search (rules, row_known)
