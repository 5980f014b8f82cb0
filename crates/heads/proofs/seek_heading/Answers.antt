-- By whether the ID is known, then the judgements in their order. Assumes nothing.
use borrow.Author.Rules.{rules}
use Rattle.heads.proofs.Headings.{seek_outside, seek_last, seek_row, seek_final, seek_skip, seek_compact}
use Rattle.heads.proofs.seek_heading.Goals as goal

pub returns-then-wrong_last : goal.returns-then-wrong_last
returns-then-wrong_last c = search (rules, seek_last, seek_row, seek_final, seek_skip, seek_outside, seek_compact)

pub returns-then-in_chain : goal.returns-then-in_chain
returns-then-in_chain c = search (rules, seek_last, seek_row, seek_final, seek_skip, seek_outside, seek_compact)

pub returns-then-last : goal.returns-then-last
returns-then-last c = search (rules, seek_last, seek_row, seek_final, seek_skip, seek_outside, seek_compact)

pub returns-then-size : goal.returns-then-size
returns-then-size c = search (rules, seek_last, seek_row, seek_final, seek_skip, seek_outside, seek_compact)

pub returns-else-in_chain : goal.returns-else-in_chain
returns-else-in_chain c = search (rules, seek_last, seek_row, seek_final, seek_skip, seek_outside, seek_compact)

pub returns-else-size : goal.returns-else-size
returns-else-size c = search (rules, seek_last, seek_row, seek_final, seek_skip, seek_outside, seek_compact)
