-- By the byte after the first, then by the int after it. Assumes nothing.
use borrow.Author.Rules.{rules}
use mathlib.Core.Path.{refl}
use native.Mathlib.Omega.{arith}
use Rattle.optional.proofs.Titles.{long_two, long_six}
use Rattle.optional.proofs.headers.long_tag.Goals as goal

pub returns-then-b-lt255 : goal.returns-then-b-lt255
returns-then-b-lt255 c = (omega arith, λ h. (refl, search long_two))

pub returns : goal.returns
returns c = (omega arith, λ h. (refl, search long_six))
