-- A string, its content left out.
use borrow.Author.Rules.{rules}
use Rattle.text.proofs.Laws.{dropped_took, dropped_bad}
use Rattle.text.proofs.read_text.Goals as goal

pub returns-in_err-read : goal.returns-in_err-read
returns-in_err-read c = search (rules, dropped_bad, c.in_err-read.was)

pub returns : goal.returns
returns c = search (dropped_took, c.in_ok-read.was)
