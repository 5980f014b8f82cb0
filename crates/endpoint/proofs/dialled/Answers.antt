-- The fields that were read, then 18. The numbers fit 32 bits.
use Rattle.endpoint.proofs.Openings.{dialled_sum, dialled_more, host_fit, port_fit, timeout_fit, compress_fit, dialled_number, dialled_bad_sum, dialled_place, dialled_is, dialled_bad}
use Rattle.endpoint.proofs.dialled.Goals as goal

pub overflow_add-end : goal.overflow_add-end
overflow_add-end c = search dialled_sum

pub returns-then-end-s : goal.returns-then-end-s
returns-then-end-s c = search dialled_more

pub overflow_cast-result-in-Ok-3 : goal.overflow_cast-result-in-Ok-3
overflow_cast-result-in-Ok-3 c = search host_fit

pub overflow_cast-result-in-Ok-4 : goal.overflow_cast-result-in-Ok-4
overflow_cast-result-in-Ok-4 c = search port_fit

pub overflow_cast-result-in-Ok-5 : goal.overflow_cast-result-in-Ok-5
overflow_cast-result-in-Ok-5 c = search timeout_fit

pub overflow_cast-result-in-Ok-6 : goal.overflow_cast-result-in-Ok-6
overflow_cast-result-in-Ok-6 c = search compress_fit

pub overflow_cast-result-in-Err : goal.overflow_cast-result-in-Err
overflow_cast-result-in-Err c = search dialled_number

pub overflow_add-result : goal.overflow_add-result
overflow_add-result c = search dialled_bad_sum

pub overflow_cast-result-in-Err-2 : goal.overflow_cast-result-in-Err-2
overflow_cast-result-in-Err-2 c = search dialled_place

pub returns-else-end-s : goal.returns-else-end-s
returns-else-end-s c = search dialled_is

pub returns-in-Err : goal.returns-in-Err
returns-in-Err c = search dialled_bad
