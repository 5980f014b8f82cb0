-- A check refuses, or the rows are written. Assumes nothing.
use native.Mathlib.Omega.{arith}
use Rattle.prepare.specs.PreparingLaws.{ready_top, ready_short}
use Rattle.onepass.specs.PassLaws.{shapes_there}
use Rattle.writing.proofs.Outcomes.{refused_outcome, refused_fits, refused_output, rows_outcome, rows_fits, rows_output}
use Rattle.writing.proofs.checked.Goals as goal

pub write_rows-requires-clause-shapes_value : goal.write_rows-requires-clause-shapes_value
write_rows-requires-clause-shapes_value c = search shapes_there

pub write_rows-requires-clause-top_bound : goal.write_rows-requires-clause-top_bound
write_rows-requires-clause-top_bound c = (search ready_top, omega arith, search ready_short)

pub returns-in-Refused-clause-value : goal.returns-in-Refused-clause-value
returns-in-Refused-clause-value c = (search refused_outcome, search refused_fits)

pub returns-in-Refused-clause-out_after : goal.returns-in-Refused-clause-out_after
returns-in-Refused-clause-out_after c = search refused_output

pub returns-in-Ready-clause-value : goal.returns-in-Ready-clause-value
returns-in-Ready-clause-value c = (search rows_outcome, search rows_fits)

pub returns-in-Ready-clause-out_after : goal.returns-in-Ready-clause-out_after
returns-in-Ready-clause-out_after c = search rows_output
