-- Size, version and marker, then the slices. Assumes nothing.
use native.Mathlib.Omega.{arith}
use Rattle.convert.proofs.Moving.{record_put}
use Rattle.convert.proofs.slice.put_record.Goals as goal

pub returns : goal.returns
returns c = record_put _ _ _ _ _ _ _ _ _ _ _ _ (omega arith) (omega arith) c.put_number.ensures c.put_part.ensures c.put_slices.ensures
