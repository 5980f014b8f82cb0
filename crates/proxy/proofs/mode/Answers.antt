-- The mode, judged; then what follows it.
use borrow.Author.Rules.{rules}
use Rattle.wire.proofs.Sums.{any_later_fits}
use Rattle.proxy.specs.Parts.{secured as secured-of}
use Rattle.proxy.proofs.Laws.{held_secured, mode_none, mode_high, mode_rest}
use Rattle.proxy.proofs.mode.Goals as goal

pub returns-then-s-lt1 : goal.returns-then-s-lt1
returns-then-s-lt1 c = search mode_none

pub returns-then-byte_at-ge5 : goal.returns-then-byte_at-ge5
returns-then-byte_at-ge5 c = search mode_high

pub later-requires : goal.later-requires
later-requires c = search (rules, any_later_fits secured-of held_secured)

pub returns : goal.returns
returns c = rw c.later.ensures (search mode_rest)
