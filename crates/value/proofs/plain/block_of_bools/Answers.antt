-- Four longs without a bit above the lowest of any byte. Assumes nothing.
use native.Mathlib.Omega.{arith}
use Rattle.value.proofs.BoolLaws.{bools_block}
use Rattle.value.proofs.plain.block_of_bools.Goals as goal

pub returns : goal.returns
returns c = bools_block _ (λ j. omega (arith, c.type_inv.s j)) _ _ _ _ _ (omega arith) c.long_in.ensures c.long_in-2.ensures c.long_in-3.ensures c.long_in-4.ensures
