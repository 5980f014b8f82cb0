-- One of two readers, by the encoding. Assumes nothing.
use borrow.Author.Rules.{rules}
use Rattle.value.proofs.PlainLaws.{upto_old, upto_new}
use Rattle.value.proofs.plain.number_upto.Goals as goal

pub returns-then-old : goal.returns-then-old
returns-then-old c = search (rules, upto_old, upto_new)

pub returns : goal.returns
returns c = search (rules, upto_old, upto_new)
