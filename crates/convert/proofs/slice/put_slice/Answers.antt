-- The front, then the data as they are. Assumes nothing.
use Rattle.convert.proofs.Moving.{part_small, slice_moved}
use Rattle.convert.proofs.slice.put_slice.Goals as goal

pub overflow_add-result : goal.overflow_add-result
overflow_add-result c = record { fits = part_small _ _ _ _ _ _ _ c.requires.i_le_n.4 c.put_front-a.ensures.1 c.data_end-e.ensures c.over-k.ensures c.requires.i_le_n.5 }

pub returns : goal.returns
returns c = slice_moved _ _ _ _ _ _ _ _ _ _ _ _ _ _ c.byte_at.ensures.0 _ c.has_optionals-optionals.ensures _ c.own_rows-own.ensures _ c.data_end-e.ensures _ c.over-k.ensures c.requires.i_le_n.5 _ c.put_front-a.ensures.0 c.put_front-a.ensures.1 c.put_part.ensures
