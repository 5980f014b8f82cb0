-- Its tests in turn. Assumes nothing.
use Rattle.rules.proofs.Judging.{usual_small, usual_struct, usual_mark, usual_below, usual_last}
use Rattle.rules.proofs.is_usual.Goals as goal

pub returns-then-x-lt65536 : goal.returns-then-x-lt65536
returns-then-x-lt65536 c = search usual_small

pub returns-then-not-optional : goal.returns-then-not-optional
returns-then-not-optional c = search usual_struct

pub returns-then-x-ne1 : goal.returns-then-x-ne1
returns-then-x-ne1 c = search usual_mark

pub returns-then-tag-above : goal.returns-then-tag-above
returns-then-tag-above c = search usual_below

pub returns : goal.returns
returns c = search usual_last
