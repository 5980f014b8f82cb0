-- The forms by their numbers: bare ones go by their type, the others by VSize or FSize.
use borrow.Author.Rules.{rules}
use Rattle.optional.proofs.Declared.{part_run, part_size, part_own, part_counted, part_sized}
use Rattle.optional.proofs.extents.part.Goals as goal

pub returns-then-f-lt4 : goal.returns-then-f-lt4
returns-then-f-lt4 c = search (rules, part_run, part_size, part_own, part_counted, part_sized)

pub returns-then-f-eq4 : goal.returns-then-f-eq4
returns-then-f-eq4 c = search (rules, part_run, part_size, part_own, part_counted, part_sized)

pub returns-then-f-eq8 : goal.returns-then-f-eq8
returns-then-f-eq8 c = search (rules, part_run, part_size, part_own, part_counted, part_sized)

pub returns-then-f-eq9 : goal.returns-then-f-eq9
returns-then-f-eq9 c = search (rules, part_run, part_size, part_own, part_counted, part_sized)

pub returns : goal.returns
returns c = search (rules, part_run, part_size, part_own, part_counted, part_sized)
