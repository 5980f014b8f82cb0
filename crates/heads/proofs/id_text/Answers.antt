-- By whether an ID is due.
use borrow.Author.Rules.{rules}
use Rattle.heads.proofs.Headings.{id_due, id_none}
use Rattle.heads.proofs.id_text.Goals as goal

pub returns-then-due : goal.returns-then-due
returns-then-due c = search (rules, id_due, id_none)

pub returns : goal.returns
returns c = search (rules, id_due, id_none)
