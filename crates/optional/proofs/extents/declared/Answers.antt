-- The bytes that an int declares, or its refusal.
use borrow.Author.Rules.{rules}
use Rattle.optional.proofs.Declared.{declared_bad, declared_int, declared_whole}
use Rattle.optional.proofs.extents.declared.Goals as goal

pub returns-in_err-taken : goal.returns-in_err-taken
returns-in_err-taken c = search (rules, declared_bad, c.in_err-taken.was)

pub overflow_sub-result : goal.overflow_sub-result
overflow_sub-result c = search (declared_int, c.in_ok-taken.was)

pub returns : goal.returns
returns c = search (declared_whole, c.in_ok-taken.was)
