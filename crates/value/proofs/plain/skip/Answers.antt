-- k bytes: they are there, or not.
use borrow.Author.Rules.{rules}
use Rattle.value.proofs.PlainLaws.{skip_cut, skip_whole}
use Rattle.value.proofs.plain.skip.Goals as goal

pub returns-then-s-k : goal.returns-then-s-k
returns-then-s-k c = search (rules, skip_cut, skip_whole)

pub returns : goal.returns
returns c = search (rules, skip_cut, skip_whole)
