-- All bytes taken, or the refusal.
use borrow.Author.Rules.{rules}
use Rattle.optional.proofs.Declared.{whole_part, whole_none}
use Rattle.optional.proofs.extents.whole.Goals as goal

pub returns-in_err-counted : goal.returns-in_err-counted
returns-in_err-counted c = search (rules, whole_none, c.in_err-counted.was)

pub returns : goal.returns
returns c = search (whole_part, c.in_ok-counted.was)
