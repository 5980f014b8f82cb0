-- A table with lists or a wrong header gets a no; else the answer is that of the pass, and after a no the array is cleared. Assumes nothing.
use Rattle.onepass.proofs.Passing.{few_types, all_there, pass_fine}
use Rattle.onepass.proofs.fill.Goals as goal

pub rows-requires-clause-n_value_2 : goal.rows-requires-clause-n_value_2
rows-requires-clause-n_value_2 c = search (few_types, c.is_err.ensures.value)

pub rows-requires-clause-all_in_bounds : goal.rows-requires-clause-all_in_bounds
rows-requires-clause-all_in_bounds c = search (all_there, c.is_err.ensures.value)

pub returns-then-rows-clause-table_value : goal.returns-then-rows-clause-table_value
returns-then-rows-clause-table_value c = λ h. search (pass_fine, c.is_err.ensures.value, c.rows.ensures.value, c.rows.ensures.value_2)
