-- A required row, and what the sequence's reader says of its type.
use borrow.Author.Rules.{rules}
use Rattle.level.proofs.Plain.{log_is}
use Rattle.level.proofs.log.Goals as goal

pub returns : goal.returns
returns c = search (rules, log_is)
