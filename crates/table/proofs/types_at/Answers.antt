-- By the two bytes of the version.
use borrow.Author.Rules.{rules}
use native.Mathlib.Omega.{arith}
use Rattle.table.proofs.Places.{types_lists, types_other, types_later}
use Rattle.table.proofs.types_at.Goals as goal
use Rattle.table.proofs.types_at.Goals.{else-byte_at-eq2-via-then-byte_at-eq2+else-byte_at-eq0 as byte_at-eq0-fails, else-byte_at-eq2-via-else-byte_at-eq2 as byte_at-eq2-fails}

pub returns-then-byte_at-eq0 : goal.returns-then-byte_at-eq0
returns-then-byte_at-eq0 c = (search (rules, types_lists), (omega arith, omega arith))

pub returns : goal.returns
returns c = elim c.else-byte_at-eq2.branch [ byte_at-eq0-fails w ↦ (search (rules, types_later, w), (omega arith, omega arith)) | byte_at-eq2-fails w ↦ (search (rules, types_other, w), (omega arith, omega arith)) ]
