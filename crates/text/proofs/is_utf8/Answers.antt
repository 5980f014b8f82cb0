-- All below 128, or character by character.
use borrow.Author.Rules.{rules}
use Rattle.text.proofs.Laws.{text_low}
use Rattle.text.proofs.is_utf8.Goals as goal

pub returns-then-are_few_ascii : goal.returns-then-are_few_ascii
returns-then-are_few_ascii c = search (rules, text_low)

pub returns-then-are_many_ascii : goal.returns-then-are_many_ascii
returns-then-are_many_ascii c = search (rules, text_low)
