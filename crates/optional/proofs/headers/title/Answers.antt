-- By the tag bits of the first byte. Assumes nothing.
use borrow.Author.Rules.{rules}
use native.Mathlib.Omega.{arith}
use Rattle.optional.proofs.Titles.{titled_short, titled_long}
use Rattle.optional.proofs.headers.title.Goals as goal

pub returns-then-tag-lt30 : goal.returns-then-tag-lt30
returns-then-tag-lt30 c = (omega arith, λ h. search titled_short)

pub returns : goal.returns
returns c = (search rules, λ h. search titled_long)
