-- The port, then timeout and compress.
use borrow.Author.Rules.{rules}
use Rattle.endpoint.proofs.Laws.{port_end, tail_fit, tail_are, tail_none}
use Rattle.endpoint.proofs.fields.tail.Goals as goal

pub returns-in_err-port : goal.returns-in_err-port
returns-in_err-port c = search (rules, tail_none, c.in_err-port.was)

pub slice_bounds-settings-count : goal.slice_bounds-settings-count
slice_bounds-settings-count c = search (rules, port_end, c.in_ok-port.was)

pub slice_bounds-settings-start : goal.slice_bounds-settings-start
slice_bounds-settings-start c = search (rules, port_end, c.in_ok-port.was)

pub later-requires : goal.later-requires
later-requires c = search (rules, tail_fit, c.in_ok-port.was)

pub returns : goal.returns
returns c = rw c.later.ensures (search (rules, tail_are, c.in_ok-port.was))
