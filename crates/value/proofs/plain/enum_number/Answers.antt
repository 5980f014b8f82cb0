-- One of two readers, by the encoding. Assumes nothing.
use borrow.Author.Rules.{rules}
use Rattle.value.proofs.PlainLaws.{number_old, number_new}
use Rattle.value.proofs.plain.enum_number.Goals as goal

pub returns-then-old : goal.returns-then-old
returns-then-old c = search (rules, number_old, number_new)

pub returns : goal.returns
returns c = search (rules, number_old, number_new)
