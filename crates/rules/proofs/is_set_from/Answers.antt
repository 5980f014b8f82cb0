-- Each field by its test. Assumes nothing.
use Rattle.rules.proofs.Judging.{set_is}
use Rattle.rules.proofs.is_set_from.Goals as goal

pub returns : goal.returns
returns c = set_is c.args.row c.args.i
