-- The loop's invariant: all records match exactly if those from row t on do. Assumes nothing.
use Rattle.matching.proofs.Judging.{all_begin, all_end, all_inside, all_not, all_next}
use borrow.Author.Rules.{rules}
use Rattle.matching.proofs.all_matched.Goals as goal

pub loop-t-init : goal.loop-t-init
loop-t-init c = search all_begin

pub matched-requires-clause-value : goal.matched-requires-clause-value
matched-requires-clause-value c = (search rules, search rules, search all_inside)

pub returns-then-not-matched : goal.returns-then-not-matched
returns-then-not-matched c = search all_not

pub loop-t-preserved : goal.loop-t-preserved
loop-t-preserved c = search all_next

pub returns : goal.returns
returns c = search all_end
