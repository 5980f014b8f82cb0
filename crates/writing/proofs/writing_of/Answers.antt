-- Each case's numbers fit, and the answer has them. Assumes nothing.
use borrow.Author.Rules.{rules}
use Rattle.writing.proofs.Outcomes.{made_fits, number_fits, place_fits, told_made, told_stopped}
use Rattle.writing.proofs.writing_of.Goals as goal

pub overflow_cast-result : goal.overflow_cast-result
overflow_cast-result c = record { fits = search made_fits }

pub overflow_cast-result-in-Err : goal.overflow_cast-result-in-Err
overflow_cast-result-in-Err c = record { fits = search number_fits }

pub overflow_cast-result-in-Err-2 : goal.overflow_cast-result-in-Err-2
overflow_cast-result-in-Err-2 c = record { fits = search place_fits }

pub returns-in-Ok : goal.returns-in-Ok
returns-in-Ok c = search told_made

pub returns-in-Err : goal.returns-in-Err
returns-in-Err c = search told_stopped
