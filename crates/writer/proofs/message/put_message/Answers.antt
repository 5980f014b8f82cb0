-- What comes before the members or slices, these, and size and version before the data, if the rows are right. Assumes nothing.
use Rattle.std.proofs.lemmas.Result.{err_from_is_err_and}
use Rattle.writer.proofs.Walks.{contents_put, message_made, message_wrong}
use mathlib.Core.Path.{ap}
use lib.Dec.{eqb}
use Prim.Native.Nat.{ℕ}
use Rattle.writer.proofs.message.put_message.Goals as goal

pub put_parts-requires-clause-list_value : goal.put_parts-requires-clause-list_value
put_parts-requires-clause-list_value c = ap (λ (x : ℕ). eqb x 15) c.kind-k.ensures.0

pub put_parts-requires-clause-start_bound : goal.put_parts-requires-clause-start_bound
put_parts-requires-clause-start_bound c = (c.put_lead-start.ensures.1, c.requires.t_bound.0, c.requires.t_bound.1, c.requires.t_bound.2, c.requires.t_bound.3)

pub returns : goal.returns
returns c = message_made _ _ _ _ _ _ _ _ _ _ c.put_parts.result (contents_put _ _ _ _ _ _ _ _ c.kind-k.ensures.0 _ _ _ _ c.put_lead-start.ensures.0 c.put_parts.result c.put_parts.ensures) _ c.in_ok-end.was _ c.version.ensures _ _ c.put_number.ensures c.put_number-2.ensures

pub returns-in_err-end : goal.returns-in_err-end
returns-in_err-end c =
    let p = err_from_is_err_and c.from_residual.result c.from_residual.ensures.1 in
    rw (p.1, p.2) (message_wrong _ _ _ _ _ _ _ _ _ _ c.put_parts.result (contents_put _ _ _ _ _ _ _ _ c.kind-k.ensures.0 _ _ _ _ c.put_lead-start.ensures.0 c.put_parts.result c.put_parts.ensures) _ c.in_err-end.was)
