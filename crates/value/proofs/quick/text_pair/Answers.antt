-- A string, then bytes of any content; 0 says nothing.
use borrow.Author.Rules.{rules}
use Rattle.value.proofs.QuickLaws.{text_fits, pair_there}
use Rattle.value.proofs.quick.text_pair.Goals as goal

pub overflow_sub-s : goal.overflow_sub-s
overflow_sub-s c = search (rules, text_fits)

pub returns : goal.returns
returns c = search (rules, pair_there)
