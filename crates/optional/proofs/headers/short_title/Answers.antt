-- By the tag bits of the first byte. Assumes nothing.
use Rattle.std.proofs.Common.{arith}
use Rattle.optional.proofs.Titles.{titled_short}
use Rattle.optional.proofs.headers.short_title.Goals as goal

pub returns-clause-value : goal.returns-clause-value
returns-clause-value c = (omega arith, λ h. search titled_short)
