-- Exactly one value: one is read, and it takes all the bytes.
use Rattle.value.proofs.CycleLaws.{exact_wide, value_row, exact_took, exact_bad}
use Rattle.value.proofs.exact_value.Goals as goal

pub returns-then-w-s : goal.returns-then-w-s
returns-then-w-s c = search exact_wide

pub returns-in-Ok : goal.returns-in-Ok
returns-in-Ok c = search (exact_took, value_row)

pub returns-in-Err : goal.returns-in-Err
returns-in-Err c = search (exact_bad, value_row)
