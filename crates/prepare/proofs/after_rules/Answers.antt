-- 2, 23, 26 and 3 in turn, where the table's rules are kept. Assumes nothing.
use Rattle.prepare.proofs.Checking.{early_top, early_format, early_old, early_long, early_none}
use Rattle.prepare.proofs.after_rules.Goals as goal

pub returns-then-no_top : goal.returns-then-no_top
returns-then-no_top c = search early_top

pub returns-then-no_format : goal.returns-then-no_format
returns-then-no_format c = search early_format

pub returns-then-no_old : goal.returns-then-no_old
returns-then-no_old c = search early_old

pub returns-then-len-gt-MOST : goal.returns-then-len-gt-MOST
returns-then-len-gt-MOST c = search early_long

pub returns : goal.returns
returns c = search early_none
