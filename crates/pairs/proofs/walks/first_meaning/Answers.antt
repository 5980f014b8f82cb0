-- By whether the ID is known, and of the top or below it. Assumes nothing.
use borrow.Author.Rules.{rules}
use Rattle.pairs.proofs.Steps.{first_row, first_outside, first_unknown}
use Rattle.pairs.proofs.walks.first_meaning.Goals as goal

pub returns-then-in_chain : goal.returns-then-in_chain
returns-then-in_chain c = search first_row

pub returns-else-in_chain : goal.returns-else-in_chain
returns-else-in_chain c = search first_outside

pub returns-in-None : goal.returns-in-None
returns-in-None c = search first_unknown
