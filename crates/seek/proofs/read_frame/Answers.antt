-- A type ID, then a size with its bytes; where either is refused there is no slice.
use borrow.Author.Rules.{rules}
use Rattle.seek.proofs.Seeking.{frame_unnamed, id_fits, id_sum, id_begins, frame_unsized, size_sum, frame_is}
use Rattle.seek.proofs.read_frame.Goals as goal

pub overflow_add-size-in-Ok : goal.overflow_add-size-in-Ok
overflow_add-size-in-Ok c = search (rules, id_sum)

pub slice_bounds-read_declared-count : goal.slice_bounds-read_declared-count
slice_bounds-read_declared-count c = search (rules, id_fits)

pub slice_bounds-read_declared-start : goal.slice_bounds-read_declared-start
slice_bounds-read_declared-start c = search (rules, id_fits)

pub overflow_sub-result : goal.overflow_sub-result
overflow_sub-result c = search id_begins

pub overflow_add-result : goal.overflow_add-result
overflow_add-result c = search (rules, size_sum)

pub returns-in-Ok-read_declared : goal.returns-in-Ok-read_declared
returns-in-Ok-read_declared c = search frame_is

pub returns-in-Err-read_declared : goal.returns-in-Err-read_declared
returns-in-Err-read_declared c = search frame_unsized

pub returns-in-Err : goal.returns-in-Err
returns-in-Err c = search frame_unnamed
