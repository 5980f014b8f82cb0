-- The rows left decide the answer, and `prior` is what the lists before row t take. Assumes nothing.
use native.Mathlib.Omega.{arith}
use borrow.Author.Rules.{rules}
use Rattle.rules.proofs.Judging.{lists_begin, lists_fault, lists_next, lists_left, lists_end}
use Rattle.rules.proofs.allowed_rows.Goals as goal

pub loop-t-init : goal.loop-t-init
loop-t-init c = lists_begin _ (λ i. omega (arith, c.type_inv.table i)) _ c.requires.n_value

pub returns-in_err-placed : goal.returns-in_err-placed
returns-in_err-placed c = search (rules, lists_fault, c.in_err-placed.was)

pub loop-t-preserved : goal.loop-t-preserved
loop-t-preserved c = search (lists_next, c.in_ok-placed.was)

pub returns-then-prior-all : goal.returns-then-prior-all
returns-then-prior-all c = search lists_left

pub returns : goal.returns
returns c = search lists_end
