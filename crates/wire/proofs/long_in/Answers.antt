-- The long of two ints that are there.
use borrow.Author.Rules.{rules}
use Rattle.wire.proofs.Laws.{long_whole}
use Rattle.wire.proofs.long_in.Goals as goal

pub returns : goal.returns
returns c = search (rules, long_whole)
