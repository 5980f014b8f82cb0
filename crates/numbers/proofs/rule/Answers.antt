-- By the verdict. Assumes nothing.
use Rattle.numbers.proofs.Judged.{sound_rule, broken_rule}
use Rattle.numbers.proofs.rule.Goals as goal

pub returns-in-Sound : goal.returns-in-Sound
returns-in-Sound c = search sound_rule

pub returns-in-Broken : goal.returns-in-Broken
returns-in-Broken c = search broken_rule
