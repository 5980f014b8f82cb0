-- A size below 255 takes one byte, any other five.
use Rattle.wire.proofs.Writes.{size_len_short, size_len_long}
use native.Mathlib.Omega.{arith}
use Rattle.wire.proofs.size_len.Goals as goal

pub returns-then-n-lt255 : goal.returns-then-n-lt255
returns-then-n-lt255 c = (search size_len_short, omega arith)

pub returns-else-n-lt255 : goal.returns-else-n-lt255
returns-else-n-lt255 c = (search size_len_long, omega arith)
