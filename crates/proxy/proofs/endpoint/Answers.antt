-- An endpoint: two bytes, then what an int declares.
use borrow.Author.Rules.{rules}
use Rattle.encoding.specs.Number.{declared}
use Rattle.encoding.proofs.NumberLaws.{held_declared}
use Rattle.wire.proofs.Sums.{later_fits}
use Rattle.proxy.proofs.Laws.{endpoint_cut, endpoint_rest}
use Rattle.proxy.proofs.endpoint.Goals as goal

pub returns-then-s-lt2 : goal.returns-then-s-lt2
returns-then-s-lt2 c = search endpoint_cut

pub later-requires : goal.later-requires
later-requires c = search (rules, later_fits (declared 6 4) (held_declared 6 4))

pub returns : goal.returns
returns c = search (rules, endpoint_rest)
