-- The identity, then what follows it; nil ends there.
use borrow.Author.Rules.{rules}
use Rattle.locate.proofs.Locating.{named_end, generals_nil, generals_fit, generals_is, generals_none}
use Rattle.locate.proofs.generals.Goals as goal

pub returns-in_err-identity : goal.returns-in_err-identity
returns-in_err-identity c = search (rules, generals_none, c.in_err-identity.was)

pub returns-then-identity-eq0 : goal.returns-then-identity-eq0
returns-then-identity-eq0 c = search (generals_nil, c.in_ok-identity.was)

pub slice_bounds-referenced-count : goal.slice_bounds-referenced-count
slice_bounds-referenced-count c = search (rules, named_end, c.in_ok-identity.was)

pub slice_bounds-referenced-start : goal.slice_bounds-referenced-start
slice_bounds-referenced-start c = search (rules, named_end, c.in_ok-identity.was)

pub later-requires : goal.later-requires
later-requires c = search (rules, generals_fit, c.in_ok-identity.was)

pub returns : goal.returns
returns c = rw c.later.ensures (search (rules, generals_is, c.in_ok-identity.was))
