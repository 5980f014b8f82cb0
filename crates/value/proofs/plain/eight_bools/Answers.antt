-- A long without a bit above the lowest of any byte. Assumes nothing.
use native.Mathlib.Omega.{arith}
use Rattle.value.proofs.BoolLaws.{bools_eight}
use Rattle.value.proofs.plain.eight_bools.Goals as goal

pub returns : goal.returns
returns c = bools_eight _ (λ j. omega (arith, c.type_inv.s j)) _ _ (omega arith) c.long_in.ensures
