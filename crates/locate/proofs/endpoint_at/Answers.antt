-- What was found, its numbers as 32 bits.
use Rattle.locate.proofs.Locating.{count_fits, place_fits, len_fits, number_fits, refusal_fits, at_is, at_refused}
use Rattle.locate.proofs.endpoint_at.Goals as goal

pub overflow_cast-result : goal.overflow_cast-result
overflow_cast-result c = search (count_fits, place_fits, len_fits)

pub overflow_cast-result-in-Ok : goal.overflow_cast-result-in-Ok
overflow_cast-result-in-Ok c = search (count_fits, place_fits, len_fits)

pub overflow_cast-result-in-Ok-2 : goal.overflow_cast-result-in-Ok-2
overflow_cast-result-in-Ok-2 c = search (count_fits, place_fits, len_fits)

pub overflow_cast-result-in-Err : goal.overflow_cast-result-in-Err
overflow_cast-result-in-Err c = search number_fits

pub overflow_cast-result-in-Err-2 : goal.overflow_cast-result-in-Err-2
overflow_cast-result-in-Err-2 c = search refusal_fits

pub returns-in-Ok : goal.returns-in-Ok
returns-in-Ok c = search at_is

pub returns-in-Err : goal.returns-in-Err
returns-in-Err c = search at_refused
