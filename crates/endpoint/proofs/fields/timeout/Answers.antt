-- A timeout, by the type and the bytes there are.
use borrow.Author.Rules.{rules}
use Rattle.endpoint.proofs.Laws.{timeout_none, timeout_cut, timeout_is}
use Rattle.endpoint.proofs.fields.timeout.Goals as goal

pub returns-then-kind-eq3 : goal.returns-then-kind-eq3
returns-then-kind-eq3 c = search (rules, timeout_none, timeout_cut, timeout_is)

pub returns-then-s-lt4 : goal.returns-then-s-lt4
returns-then-s-lt4 c = search (rules, timeout_none, timeout_cut, timeout_is)

pub returns : goal.returns
returns c = search (rules, timeout_none, timeout_cut, timeout_is)
