-- The definition, by the base that the table gives. Assumes nothing.
use borrow.Author.Rules.{rules}
use Rattle.heads.proofs.Headings.{last_wrong}
use Rattle.heads.proofs.wrong_last.Goals as goal

pub returns : goal.returns
returns c = last_wrong _ _ _ _ c.base.ensures.0
