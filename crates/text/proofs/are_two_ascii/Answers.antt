-- Two longs without the highest bit of any byte cover the bytes.
use native.Mathlib.Omega.{arith}
use Rattle.text.proofs.Laws.{ascii_two}
use Rattle.text.proofs.are_two_ascii.Goals as goal

pub returns : goal.returns
returns c = ascii_two _ (λ j. omega (arith, c.type_inv.s j)) _ _ _ _ (omega arith) (omega arith) (omega arith) c.long_in.ensures c.long_in-2.ensures
