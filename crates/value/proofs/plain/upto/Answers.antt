-- An enum: its number, compared with the greatest, or the number's refusal. Assumes nothing.
use borrow.Author.Rules.{rules}
use Rattle.value.proofs.PlainLaws.{upto_allowed, upto_above, upto_none}
use Rattle.value.proofs.plain.upto.Goals as goal

pub returns-in_err-read : goal.returns-in_err-read
returns-in_err-read c = search (rules, upto_none, c.in_err-read.was)

pub returns-then-read-g : goal.returns-then-read-g
returns-then-read-g c = search (upto_allowed, c.in_ok-read.was)

pub returns-else-read-g : goal.returns-else-read-g
returns-else-read-g c = search (upto_above, c.in_ok-read.was)
