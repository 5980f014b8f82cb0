-- Compress, a case for each way out.
use borrow.Author.Rules.{rules}
use Rattle.endpoint.proofs.Laws.{flag_cut, flag_high, flag_is}
use Rattle.endpoint.proofs.fields.flag.Goals as goal

pub returns-then-s-lt1 : goal.returns-then-s-lt1
returns-then-s-lt1 c = search (rules, flag_cut, flag_high, flag_is)

pub returns-then-flag-ge2 : goal.returns-then-flag-ge2
returns-then-flag-ge2 c = search (rules, flag_cut, flag_high, flag_is)

pub returns : goal.returns
returns c = search (rules, flag_cut, flag_high, flag_is)
