-- The loop keeps: what is still to be read makes the whole answer; 0 says nothing.
use borrow.Author.Rules.{rules}
use Rattle.value.proofs.QuickLaws.{pairs_begin, pairs_fits, pairs_next, pairs_done}
use Rattle.value.proofs.quick.text_pairs.Goals as goal

pub loop-init : goal.loop-init
loop-init c = search pairs_begin

pub overflow_add-at : goal.overflow_add-at
overflow_add-at c = search (rules, pairs_fits)

pub loop-preserved : goal.loop-preserved
loop-preserved c = search pairs_next

pub returns : goal.returns
returns c = λ e. search pairs_done
