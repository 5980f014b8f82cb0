-- A required row whose type has a width, and as many bytes are left.
use borrow.Author.Rules.{rules}
use Rattle.level.proofs.Plain.{simple_is}
use Rattle.level.proofs.simple.Goals as goal

pub returns : goal.returns
returns c = search (rules, simple_is)
