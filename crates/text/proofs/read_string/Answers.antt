-- A short string by one long; else counted bytes, which end those taken, are a string if they are text.
use borrow.Author.Rules.{rules}
use Rattle.text.proofs.Laws.{string_few, string_size, string_within, string_is, string_isnt, string_bad}
use Rattle.text.proofs.read_string.Goals as goal

pub returns-then-are_few_ascii : goal.returns-then-are_few_ascii
returns-then-are_few_ascii c = search string_few

pub returns-in_err-read : goal.returns-in_err-read
returns-in_err-read c = search (rules, string_bad, c.in_err-read.was)

pub overflow_sub-read : goal.overflow_sub-read
overflow_sub-read c = search (string_size, c.in_ok-read.was)

pub is_utf8-requires : goal.is_utf8-requires
is_utf8-requires c = search (rules, string_within, c.in_ok-read.was)

pub returns-then-not-is_utf8 : goal.returns-then-not-is_utf8
returns-then-not-is_utf8 c = search (string_isnt, c.in_ok-read.was)

pub returns : goal.returns
returns c = search (string_is, c.in_ok-read.was)
