-- By the row's kind. Assumes nothing.
use borrow.Author.Rules.{rules}
use Rattle.rules.proofs.Judging.{share_own, share_none}
use Rattle.rules.proofs.share.Goals as goal

pub returns-then-owns : goal.returns-then-owns
returns-then-owns c = search (rules, share_own)

pub returns : goal.returns
returns c = search (rules, share_none)
