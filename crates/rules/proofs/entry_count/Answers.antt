-- By the kind. Assumes nothing.
use borrow.Author.Rules.{rules}
use Rattle.rules.proofs.Judging.{count_enum, count_other}
use Rattle.rules.proofs.entry_count.Goals as goal

pub returns-then-row-eq8 : goal.returns-then-row-eq8
returns-then-row-eq8 c = search (rules, count_enum)

pub returns : goal.returns
returns c = search (rules, count_other)
