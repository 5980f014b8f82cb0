-- The bytes of a size, or its refusal.
use borrow.Author.Rules.{rules}
use Rattle.optional.proofs.Declared.{size_whole, size_bad}
use Rattle.optional.proofs.extents.sized.Goals as goal

pub returns-in_err-size : goal.returns-in_err-size
returns-in_err-size c = search (rules, size_bad, c.in_err-size.was)

pub returns : goal.returns
returns c = search (size_whole, c.in_ok-size.was)
