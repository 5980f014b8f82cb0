-- The size, then that many bytes, or the size's refusal, which is at the first byte; the size lies within the bytes at hand.
use borrow.Author.Rules.{rules}
use Rattle.wire.proofs.Laws.{size_within, counted_whole, counted_cut, counted_bad}
use Rattle.wire.proofs.read_counted.Goals as goal

pub returns-in_err-size : goal.returns-in_err-size
returns-in_err-size c = search (rules, counted_bad, c.in_err-size.was)

pub overflow_sub-s : goal.overflow_sub-s
overflow_sub-s c = search (rules, size_within, c.in_ok-size.was)

pub returns-then-s-size : goal.returns-then-s-size
returns-then-s-size c = search (counted_cut, c.in_ok-size.was)

pub returns : goal.returns
returns c = search (counted_whole, c.in_ok-size.was)
