-- An enum: its number, judged, or the number's refusal. Assumes nothing.
use borrow.Author.Rules.{rules}
use Rattle.value.proofs.PlainLaws.{enum_allowed, enum_other, enum_none}
use Rattle.value.proofs.plain.enumerator.Goals as goal

pub returns-in_err-read : goal.returns-in_err-read
returns-in_err-read c = search (rules, enum_none, c.in_err-read.was)

pub returns-then-allows : goal.returns-then-allows
returns-then-allows c = search (enum_allowed, c.in_ok-read.was)

pub returns-else-allows : goal.returns-else-allows
returns-else-allows c = search (enum_other, c.in_ok-read.was)
