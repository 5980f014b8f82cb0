-- By the row bytes, by the verdict on the rows, then by the message's length. Assumes nothing.
use Rattle.std.proofs.lemmas.Result.{err_from_is_err_and}
use borrow.Author.Rules.{rules}
use native.Mathlib.Omega.{arith}
use Rattle.writer.proofs.Writings.{answer_few, answer_wrong, answer_over, answer_room, answer_made}
use Rattle.writer.proofs.write_rows.Goals as goal

pub returns-then-rows-count : goal.returns-then-rows-count
returns-then-rows-count c = answer_few _ _ _ _ _ _ _ c.if-rows-count.true

pub measure-requires-clause-t_bound : goal.measure-requires-clause-t_bound
measure-requires-clause-t_bound c = (search rules, search rules, search rules, omega (arith, c.if-rows-count.false))

pub returns-then-n-gt65536 : goal.returns-then-n-gt65536
returns-then-n-gt65536 c = answer_over _ _ _ _ _ _ _ c.if-rows-count.false c.measure.result c.measure.ensures _ c.in_ok-n.was c.if-n-gt65536.true

pub returns-then-out-n : goal.returns-then-out-n
returns-then-out-n c = answer_room _ _ _ _ _ _ _ c.if-rows-count.false c.measure.result c.measure.ensures _ c.in_ok-n.was c.if-n-gt65536.false c.if-out-n.true

pub put_message-requires-clause-t_bound : goal.put_message-requires-clause-t_bound
put_message-requires-clause-t_bound c = (search rules, search rules, search rules, omega (arith, c.if-rows-count.false))

pub returns-in_err-n : goal.returns-in_err-n
returns-in_err-n c =
    let p = err_from_is_err_and c.from_residual.result c.from_residual.ensures.1 in
    rw (p.1, p.2) (answer_wrong _ _ _ _ _ _ _ c.if-rows-count.false c.measure.result c.measure.ensures _ c.in_err-n.was)

pub returns : goal.returns
returns c = answer_made _ _ _ _ _ _ _ c.if-rows-count.false c.measure.result c.measure.ensures _ c.in_ok-n.was c.if-n-gt65536.false c.if-out-n.false _ c.put_message.result c.put_message.ensures
