-- The answer, and its numbers where there is room for them.
use borrow.Author.Rules.{rules}
use Rattle.locate.proofs.Locating.{roomy_at}
use Rattle.locate.proofs.endpoint_at_numbers.Goals as goal

pub put_located-requires : goal.put_located-requires
put_located-requires c = search (rules, roomy_at)
