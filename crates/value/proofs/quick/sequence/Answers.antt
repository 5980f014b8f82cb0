-- A sequence of bytes of a width, by the row; 0 says nothing.
use borrow.Author.Rules.{rules}
use Rattle.value.proofs.Room.{items_fits}
use Rattle.wire.proofs.Laws.{size_within}
use Rattle.value.proofs.QuickLaws.{row_inside, wide_seq}
use Rattle.value.proofs.quick.sequence.Goals as goal

pub type_row_in-row-requires-clause-t_in_bounds : goal.type_row_in-row-requires-clause-t_in_bounds
type_row_in-row-requires-clause-t_in_bounds c = search row_inside

pub overflow_mul-size : goal.overflow_mul-size
overflow_mul-size c = search (rules, items_fits)

pub overflow_sub-s : goal.overflow_sub-s
overflow_sub-s c = search (rules, size_within)

pub returns-then-size-w : goal.returns-then-size-w
returns-then-size-w c = λ e old. search wide_seq
