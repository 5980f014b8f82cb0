-- Six bytes, then the count.
use borrow.Author.Rules.{rules}
use Rattle.locate.proofs.Locating.{counted_cut, counted_fit, counted_is}
use Rattle.locate.proofs.counted.Goals as goal

pub returns-then-s-lt6 : goal.returns-then-s-lt6
returns-then-s-lt6 c = search counted_cut

pub later-requires : goal.later-requires
later-requires c = search (rules, counted_fit)

pub returns : goal.returns
returns c = rw c.later.ensures (search (rules, counted_is))
