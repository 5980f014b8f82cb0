-- By the kind. Assumes nothing.
use native.Mathlib.Omega.{arith}
use Rattle.std.proofs.Common.{sym, ◌∙◌}
use Rattle.encoding.specs.Table.{used}
use Rattle.rules.proofs.Judging.{used_low, used_all}
use Rattle.rules.proofs.used.Goals as goal

pub returns-then-k-lt8 : goal.returns-then-k-lt8
returns-then-k-lt8 c = search used_low

pub returns-then-with_lists : goal.returns-then-with_lists
unfolding used
returns-then-with_lists c = rw (c.in-8.is, sym c.with_lists.ensures ∙ c.if-with_lists.true)

pub returns-else-with_lists : goal.returns-else-with_lists
unfolding used
returns-else-with_lists c = rw (c.in-8.is, sym c.with_lists.ensures ∙ c.if-with_lists.false)

pub returns-in-9 : goal.returns-in-9
unfolding used
returns-in-9 c = rw c.in-9.is

pub returns-in-11 : goal.returns-in-11
unfolding used
returns-in-11 c = rw c.in-11.is

pub returns-in-15 : goal.returns-in-15
unfolding used
returns-in-15 c = rw c.in-15.is

pub returns-in-10 : goal.returns-in-10
unfolding used
returns-in-10 c = rw c.in-10.is

pub returns-in-12 : goal.returns-in-12
unfolding used
returns-in-12 c = rw c.in-12.is

pub returns-in_default : goal.returns-in_default
returns-in_default c = used_all _ _ (omega arith) (λ e. omega arith) (λ e. omega arith) (λ e. omega arith) (λ e. omega arith) (λ e. omega arith) (λ e. omega arith)
