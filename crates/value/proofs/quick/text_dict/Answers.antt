-- A size of one byte, then so many pairs; 0 says nothing.
use borrow.Author.Rules.{rules}
use Rattle.value.proofs.QuickLaws.{dict_there}
use Rattle.value.proofs.quick.text_dict.Goals as goal

pub returns : goal.returns
returns c = search (rules, dict_there)
