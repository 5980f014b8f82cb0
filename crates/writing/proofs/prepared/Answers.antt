-- What the one pass knows, or what `prepare` finds, and the shapes. Assumes nothing.
use Rattle.onepass.specs.PassLaws.{passed_table, passed_shapes, blank_again, stop_found, ready_found, no_shapes}
use Rattle.writing.proofs.prepared.Goals as goal

pub after_rules-requires-clause-table_value : goal.after_rules-requires-clause-table_value
after_rules-requires-clause-table_value c = search (passed_table, c.fill.ensures.table_value)

pub returns-then-fill-clause-shapes_after : goal.returns-then-fill-clause-shapes_after
returns-then-fill-clause-shapes_after c = search (passed_shapes, c.fill.ensures.shapes_after)

pub fill-requires-in-Ready-clause-shapes_value : goal.fill-requires-in-Ready-clause-shapes_value
fill-requires-in-Ready-clause-shapes_value c = search (blank_again, c.fill.ensures.shapes_after_2)

pub returns-in-Refused-clause-value : goal.returns-in-Refused-clause-value
returns-in-Refused-clause-value c = search stop_found

pub returns-in-Refused-clause-shapes_after : goal.returns-in-Refused-clause-shapes_after
returns-in-Refused-clause-shapes_after c = search no_shapes

pub returns-in-Ready-clause-value : goal.returns-in-Ready-clause-value
returns-in-Ready-clause-value c = search ready_found
