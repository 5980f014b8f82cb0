-- A declared length: one case of `declared` for each way out, by the int at the head and the bytes after it.
use borrow.Author.Rules.{rules}
use Rattle.wire.proofs.Laws.{declared_none, declared_low, declared_high, declared_cut, declared_whole}
use Rattle.wire.proofs.read_declared.Goals as goal

pub returns-then-s-lt4 : goal.returns-then-s-lt4
returns-then-s-lt4 c = search (rules, declared_none, declared_low, declared_high, declared_cut, declared_whole)

pub returns-then-n-least : goal.returns-then-n-least
returns-then-n-least c = search (rules, declared_none, declared_low, declared_high, declared_cut, declared_whole)

pub returns-then-n-ge2147483648 : goal.returns-then-n-ge2147483648
returns-then-n-ge2147483648 c = search (rules, declared_none, declared_low, declared_high, declared_cut, declared_whole)

pub returns-then-s-rest : goal.returns-then-s-rest
returns-then-s-rest c = search (rules, declared_none, declared_low, declared_high, declared_cut, declared_whole)

pub returns : goal.returns
returns c = search (rules, declared_none, declared_low, declared_high, declared_cut, declared_whole)
