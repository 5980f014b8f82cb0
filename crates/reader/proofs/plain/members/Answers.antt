-- The required members are read up to the rows of which none is required, then the optionals to the end. Assumes nothing.
use mathlib.Core.Path.{◌∙◌}
use native.Mathlib.Omega.{arith}
use borrow.Author.Rules.{rules}
use Rattle.reader.proofs.Listing.{list_asks}
use Rattle.reader.proofs.Plainly.{plain_none, plain_begin, plain_read, plain_fits, plain_kept, plain_log}
use Rattle.reader.proofs.plain.members.Goals as goal

pub returns-then-n-eq0 : goal.returns-then-n-eq0
returns-then-n-eq0 c = plain_kept _ _ _ _ _ _ _ _ _ c.simples-b.ensures.due c.requires.in_bounds _ _ c.last_log-n.ensures

pub returns-then-n-left : goal.returns-then-n-left
returns-then-n-left c = plain_kept _ _ _ _ _ _ _ _ _ c.simples-b.ensures.due c.requires.in_bounds _ _ c.last_log-n.ensures

pub returns-then-row-bare : goal.returns-then-row-bare
returns-then-row-bare c = plain_log _ _ _ _ _ _ _ _ _ c.simples-b.ensures.due c.requires.in_bounds _ _ c.last_log-n.ensures c.if-stop-row.false c.if-n-eq0.false c.if-n-left.false _ c.requires.takes (omega arith)

pub simples-b-requires-clause-s_bound : goal.simples-b-requires-clause-s_bound
simples-b-requires-clause-s_bound c = (search (rules, list_asks), omega arith)

pub returns-then-stop-row : goal.returns-then-stop-row
returns-then-stop-row c = search plain_none

pub overflow_sub-left : goal.overflow_sub-left
overflow_sub-left c = search plain_fits

pub slice_bounds-last_log-count : goal.slice_bounds-last_log-count
slice_bounds-last_log-count c = search plain_fits

pub slice_bounds-last_log-start : goal.slice_bounds-last_log-start
slice_bounds-last_log-start c = search plain_fits

pub last_log-n-requires-clause-whole : goal.last_log-n-requires-clause-whole
last_log-n-requires-clause-whole c = (search rules, omega arith)

pub last_log-n-requires-clause-m_lt_limit : goal.last_log-n-requires-clause-m_lt_limit
last_log-n-requires-clause-m_lt_limit c = (search rules, omega (arith, c.simples-b.ensures.due.few))

pub quick-r-requires-clause-whole : goal.quick-r-requires-clause-whole
quick-r-requires-clause-whole c = (search rules, omega arith)

pub quick-r-requires-clause-listing : goal.quick-r-requires-clause-listing
quick-r-requires-clause-listing c = plain_begin _ _ _ _ _ _ _ _ _ c.simples-b.ensures.due _ c.requires.bare_value (omega arith) (omega arith) _ c.requires.takes (omega arith)

pub returns-then-at-m : goal.returns-then-at-m
returns-then-at-m c = plain_none _ _ _ _ _ (c.quick-r.ensures.out_len_unchanged ∙ c.simples-b.ensures.due.same)

pub returns : goal.returns
returns c = plain_read _ _ _ _ _ _ _ _ _ c.simples-b.ensures.due _ c.requires.bare_value (omega arith) c.requires.in_bounds _ _ _ _ _ c.quick-r.ensures.listing_2 c.if-at-m.false (c.quick-r.ensures.out_len_unchanged ∙ c.simples-b.ensures.due.same)
