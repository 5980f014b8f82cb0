-- The two parts put are the endpoint; on a refusal the output stays.
use Rattle.endpoint.proofs.Writings.{write_least, write_head, write_tail, write_done, write_refused}
use Rattle.endpoint.proofs.writes.write_endpoint.Goals as goal

pub put_head-requires-clause-le_n : goal.put_head-requires-clause-le_n
put_head-requires-clause-le_n c = search write_least

pub put_head-requires-clause-host_in_bounds : goal.put_head-requires-clause-host_in_bounds
put_head-requires-clause-host_in_bounds c = search write_head

pub put_tail-requires : goal.put_tail-requires
put_tail-requires c = search write_tail

pub returns-in-Written-clause-out_after : goal.returns-in-Written-clause-out_after
returns-in-Written-clause-out_after c = search write_done

pub returns-in-Rejected-clause-out_after : goal.returns-in-Rejected-clause-out_after
returns-in-Rejected-clause-out_after c = search write_refused
