-- A dictionary of strings and bytes of a width, by the row; 0 says nothing.
use borrow.Author.Rules.{rules}
use Rattle.value.proofs.QuickLaws.{dict_wide}
use Rattle.value.proofs.quick.dictionary.Goals as goal

pub returns : goal.returns
returns c = search (rules, dict_wide)
