-- The rows left decide the answer, `prior` is what the rows before t take, and no row before `from` is a record. Assumes nothing.
use native.Mathlib.Omega.{arith}
use Rattle.std.proofs.lemmas.Result.{err_from_is_err_and}
use borrow.Author.Rules.{rules}
use Rattle.rules.proofs.Judging.{types_begin, types_basic, types_fault, types_next, types_lists, types_sum, types_end}
use Rattle.rules.proofs.type_rows.Goals as goal

pub loop-t-init : goal.loop-t-init
loop-t-init c = types_begin _ (λ i. omega (arith, c.type_inv.table i)) _ c.requires.n_value

pub loop-t-preserved-then-is_basic : goal.loop-t-preserved-then-is_basic
loop-t-preserved-then-is_basic c = search types_basic

pub returns-in_err-placed : goal.returns-in_err-placed
returns-in_err-placed c = search (rules, types_fault, c.in_err-placed.was)

pub loop-t-preserved : goal.loop-t-preserved
loop-t-preserved c = search (types_next, c.in_ok-placed.was)

pub returns-in_err-allowed_pass : goal.returns-in_err-allowed_pass
returns-in_err-allowed_pass c =
    let p = err_from_is_err_and c.from_residual-in_err-allowed_pass.result c.from_residual-in_err-allowed_pass.ensures.1 in
    rw (p.1, p.2) (search (types_lists, c.in_err-allowed_pass.was))

pub returns-then-prior-members : goal.returns-then-prior-members
returns-then-prior-members c = search (types_sum, c.in_ok-allowed_pass.was)

pub returns : goal.returns
returns c = search (types_end, c.in_ok-allowed_pass.was)
