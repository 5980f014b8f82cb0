-- By whether the row lies below. Assumes nothing.
use borrow.Author.Rules.{rules}
use Rattle.value.proofs.CycleLaws.{text_there, text_not}
use Rattle.value.proofs.is_text_below.Goals as goal

pub returns-then-k-t : goal.returns-then-k-t
returns-then-k-t c = search (rules, text_there, text_not)

pub returns : goal.returns
returns c = search (rules, text_there, text_not)
