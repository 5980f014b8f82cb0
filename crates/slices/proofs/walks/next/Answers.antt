-- By the next byte, then by the optional. Assumes nothing.
use borrow.Author.Rules.{rules}
use Rattle.slices.proofs.Steps.{next_early, next_end, next_some, next_wrong}
use Rattle.slices.proofs.walks.next.Goals as goal

pub returns-then-least-eq0 : goal.returns-then-least-eq0
returns-then-least-eq0 c = search next_early

pub returns-then-byte_at-eq255 : goal.returns-then-byte_at-eq255
returns-then-byte_at-eq255 c = search next_end

pub returns-in_err-optional : goal.returns-in_err-optional
returns-in_err-optional c = search (rules, next_wrong, c.in_err-optional.was)

pub returns : goal.returns
returns c = search (next_some, c.in_ok-optional.was)
