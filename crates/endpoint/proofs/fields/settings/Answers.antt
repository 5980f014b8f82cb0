-- The timeout, then compress.
use borrow.Author.Rules.{rules}
use Rattle.endpoint.proofs.Laws.{timeout_end, settings_fit, settings_bad_fit, settings_are, settings_bad, settings_none}
use Rattle.endpoint.proofs.fields.settings.Goals as goal

pub returns-in_err-timeout : goal.returns-in_err-timeout
returns-in_err-timeout c = search (rules, settings_none, c.in_err-timeout.was)

pub slice_bounds-flag-count : goal.slice_bounds-flag-count
slice_bounds-flag-count c = search (rules, timeout_end, c.in_ok-timeout.was)

pub slice_bounds-flag-start : goal.slice_bounds-flag-start
slice_bounds-flag-start c = search (rules, timeout_end, c.in_ok-timeout.was)

pub overflow_add-result : goal.overflow_add-result
overflow_add-result c = search (rules, settings_fit, c.in_ok-timeout.was)

pub behind-requires : goal.behind-requires
behind-requires c = search (rules, settings_bad_fit, c.in_ok-timeout.was)

pub returns-in-Ok : goal.returns-in-Ok
returns-in-Ok c = search (rules, settings_are, c.in_ok-timeout.was)

pub returns-in-Err : goal.returns-in-Err
returns-in-Err c = rw c.behind.ensures (search (rules, settings_bad, c.in_ok-timeout.was))
