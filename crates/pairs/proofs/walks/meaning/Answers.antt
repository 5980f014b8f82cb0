-- By the stage. Assumes nothing.
use borrow.Author.Rules.{rules}
use native.Mathlib.Omega.{arith}
use Rattle.pairs.proofs.Steps.{meant_first, meant_base, meant_other}
use Rattle.pairs.proofs.walks.meaning.Goals as goal

pub returns-then-due-eq0 : goal.returns-then-due-eq0
returns-then-due-eq0 c = search meant_first

pub overflow_sub-due : goal.overflow_sub-due
overflow_sub-due c = omega arith

pub overflow_sub-result : goal.overflow_sub-result
overflow_sub-result c = omega arith

pub returns-then-is_named : goal.returns-then-is_named
returns-then-is_named c = search meant_base

pub returns : goal.returns
returns c = search meant_other
