-- The answer of the proxy reader to one endpoint, then 18. The numbers fit 32 bits.
use Rattle.endpoint.proofs.Openings.{unopened_more, unopened_done, unopened_number, unopened_place, unopened_bad}
use Rattle.endpoint.proofs.unopened.Goals as goal

pub returns-then-n-s : goal.returns-then-n-s
returns-then-n-s c = search unopened_more

pub overflow_cast-result-in-Err : goal.overflow_cast-result-in-Err
overflow_cast-result-in-Err c = search unopened_number

pub overflow_cast-result-in-Err-2 : goal.overflow_cast-result-in-Err-2
overflow_cast-result-in-Err-2 c = search unopened_place

pub returns-else-n-s : goal.returns-else-n-s
returns-else-n-s c = search unopened_done

pub returns-in-Err : goal.returns-in-Err
returns-in-Err c = search unopened_bad
