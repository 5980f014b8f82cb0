-- The answer, and its numbers where there is room for them.
use borrow.Author.Rules.{rules}
use Rattle.endpoint.proofs.Openings.{roomy_same}
use Rattle.endpoint.proofs.open_numbers.Goals as goal

pub put_opened-requires : goal.put_opened-requires
put_opened-requires c = search (rules, roomy_same)
