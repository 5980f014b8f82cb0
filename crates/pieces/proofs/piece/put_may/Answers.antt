-- The member is looked up; header, length field and content are put one after another. Assumes nothing.
use mathlib.Core.Path.{refl}
use native.Mathlib.Omega.{arith}
use Rattle.pieces.proofs.Fields.{optional_put, may_gone, may_tag, may_put}
use Rattle.pieces.proofs.piece.put_may.Goals as goal

pub put_length-d-requires : goal.put_length-d-requires
put_length-d-requires c = omega (arith, c.requires.at_bound.0)

pub put_value-end-requires : goal.put_value-end-requires
put_value-end-requires c = (omega (arith, c.requires.at_bound.0, c.put_header-c.ensures.1), c.requires.at_bound.2)

pub returns-in-Some : goal.returns-in-Some
returns-in-Some c = (may_put _ _ _ _ _ _ c.row_in-row.ensures _ _ _ c.optional_at-f.ensures _ c.in-Some.is _ c.requires.shapes_value _ c.form-form.ensures _ _ _ _ (omega (arith, c.requires.at_bound.2, c.put_header-c.ensures.1, c.put_length-d.ensures.1, c.put_value-end.ensures.1)) (optional_put _ _ _ _ _ _ _ _ _ _ _ _ _ _ c.form_bits.ensures.0 c.part_len.ensures.0 c.put_header-c.ensures.0 c.put_length-d.ensures.0 c.put_value-end.ensures.0), may_tag _ _ _ _ _ c.optional_at-f.ensures _ c.in-Some.is)

pub returns-in-None : goal.returns-in-None
returns-in-None c = (search may_gone, refl)
