-- The first judgement whose test is true.
use borrow.Author.Rules.{rules}
use Rattle.optional.proofs.Heads.{early_under, early_low, early_class, early_fine}
use Rattle.optional.proofs.headers.early.Goals as goal

pub returns-then-under : goal.returns-then-under
returns-then-under c = search (rules, early_under, early_low, early_class, early_fine)

pub returns-then-tag-least : goal.returns-then-tag-least
returns-then-tag-least c = search (rules, early_under, early_low, early_class, early_fine)

pub returns-then-k-eq7 : goal.returns-then-k-eq7
returns-then-k-eq7 c = search (rules, early_under, early_low, early_class, early_fine)

pub returns : goal.returns
returns c = search (rules, early_under, early_low, early_class, early_fine)
