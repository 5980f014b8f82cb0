-- The judgements in their order. Assumes nothing.
use borrow.Author.Rules.{rules}
use Rattle.heads.proofs.Headings.{follow_end, follow_other, follow_last, follow_row}
use Rattle.heads.proofs.follow_heading.Goals as goal

pub returns-then-b-eq0 : goal.returns-then-b-eq0
returns-then-b-eq0 c = search (rules, follow_end, follow_other, follow_last, follow_row)

pub returns-then-other_id : goal.returns-then-other_id
returns-then-other_id c = search (rules, follow_end, follow_other, follow_last, follow_row)

pub returns-then-wrong_last : goal.returns-then-wrong_last
returns-then-wrong_last c = search (rules, follow_end, follow_other, follow_last, follow_row)

pub returns : goal.returns
returns c = search (rules, follow_end, follow_other, follow_last, follow_row)
