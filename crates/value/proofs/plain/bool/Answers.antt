-- A bool: one case of `bool` for each way out, by the first byte.
use borrow.Author.Rules.{rules}
use Rattle.value.proofs.PlainLaws.{bool_none, bool_high, bool_whole}
use Rattle.value.proofs.plain.bool.Goals as goal

pub returns-then-s-lt1 : goal.returns-then-s-lt1
returns-then-s-lt1 c = search (rules, bool_none, bool_high, bool_whole)

pub returns-then-byte_at-ge2 : goal.returns-then-byte_at-ge2
returns-then-byte_at-ge2 c = search (rules, bool_none, bool_high, bool_whole)

pub returns : goal.returns
returns c = search (rules, bool_none, bool_high, bool_whole)
