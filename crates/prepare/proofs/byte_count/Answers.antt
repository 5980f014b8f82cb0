-- Each element of the slice is below 256. Assumes nothing.
use mathlib.Core.Path.{refl}
use native.Mathlib.Omega.{arith}
use Rattle.prepare.proofs.Checking.{bytes_known}
use Rattle.prepare.proofs.byte_count.Goals as goal

pub returns : goal.returns
returns c = (refl, bytes_known c.args.s.now (λ i. omega (arith, c.type_inv.s i)))
