-- Secure, judged; then what follows it.
use borrow.Author.Rules.{rules}
use Rattle.wire.proofs.Sums.{any_later_fits}
use Rattle.proxy.specs.Parts.{addressed as addressed-of}
use Rattle.proxy.proofs.Laws.{held_addressed, secured_none, secured_high, secured_rest}
use Rattle.proxy.proofs.secured.Goals as goal

pub returns-then-s-lt1 : goal.returns-then-s-lt1
returns-then-s-lt1 c = search secured_none

pub returns-then-byte_at-ge2 : goal.returns-then-byte_at-ge2
returns-then-byte_at-ge2 c = search secured_high

pub later-requires : goal.later-requires
later-requires c = search (rules, any_later_fits addressed-of held_addressed)

pub returns : goal.returns
returns c = rw c.later.ensures (search secured_rest)
