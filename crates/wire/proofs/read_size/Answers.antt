-- A size: one case of `size` for each way out, by the first byte and the int after it.
use borrow.Author.Rules.{rules}
use Rattle.wire.proofs.Laws.{size_none, size_short, size_cut, size_low, size_high, size_long}
use Rattle.wire.proofs.read_size.Goals as goal

pub returns-then-s-lt1 : goal.returns-then-s-lt1
returns-then-s-lt1 c = search (rules, size_none, size_short, size_cut, size_low, size_high, size_long)

pub returns-then-b-lt255 : goal.returns-then-b-lt255
returns-then-b-lt255 c = search (rules, size_none, size_short, size_cut, size_low, size_high, size_long)

pub returns-then-s-lt5 : goal.returns-then-s-lt5
returns-then-s-lt5 c = search (rules, size_none, size_short, size_cut, size_low, size_high, size_long)

pub returns-then-long-lt255 : goal.returns-then-long-lt255
returns-then-long-lt255 c = search (rules, size_none, size_short, size_cut, size_low, size_high, size_long)

pub returns-then-long-ge2147483648 : goal.returns-then-long-ge2147483648
returns-then-long-ge2147483648 c = search (rules, size_none, size_short, size_cut, size_low, size_high, size_long)

pub returns : goal.returns
returns c = search (rules, size_none, size_short, size_cut, size_low, size_high, size_long)
