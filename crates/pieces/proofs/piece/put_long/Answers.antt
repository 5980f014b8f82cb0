-- Two parts, one after the other, are the whole part. Assumes nothing.
use native.Mathlib.Omega.{arith}
use Rattle.pieces.proofs.Fields.{long_put}
use Rattle.pieces.proofs.piece.put_long.Goals as goal

pub returns : goal.returns
returns c = (search long_put, omega arith)
