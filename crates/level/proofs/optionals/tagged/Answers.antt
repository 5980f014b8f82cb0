-- The row is before the limit, is optional and has the tag.
use borrow.Author.Rules.{rules}
use Rattle.level.proofs.Plain.{tagged_is}
use Rattle.level.proofs.optionals.tagged.Goals as goal

pub returns : goal.returns
returns c = search (rules, tagged_is)
