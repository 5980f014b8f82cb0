-- By the row count, then by the kind. Assumes nothing.
use Rattle.prepare.proofs.Checking.{top_beyond, top_kind}
use Rattle.prepare.proofs.no_top.Goals as goal

pub returns-then-types-top : goal.returns-then-types-top
returns-then-types-top c = search top_beyond

pub returns : goal.returns
returns c = search top_kind
