-- By how many fields are used: past the last field none is left. Assumes nothing.
use native.Mathlib.Omega.{arith}
use borrow.Author.Tests.{le-ltb}
use Rattle.std.proofs.Common.{ap, ◌∙◌}
use Rattle.rules.specs.Checks.{is_set_from}
use Rattle.rules.proofs.Judging.{set_past}
use Rattle.rules.proofs.is_unused_set.Goals as goal

pub returns-else-n-lt5 : goal.returns-else-n-lt5
returns-else-n-lt5 c = le-ltb c.used.result 5 (omega arith) ∙ set_past c.args.row c.used.result (omega arith) ∙ ap (is_set_from c.args.row) c.used.ensures
