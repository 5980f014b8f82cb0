-- Each arm gives what `view_within` gives of its case. Assumes nothing.
use Rattle.view.proofs.Numbering.{within_enough, within_part, within_fallback, within_nothing, within_refused}
use Rattle.view.proofs.within.Goals as goal

pub returns-then-n-ge12 : goal.returns-then-n-ge12
returns-then-n-ge12 c = search within_enough

pub returns-in-Part : goal.returns-in-Part
returns-in-Part c = search within_part

pub returns-in-Fallback : goal.returns-in-Fallback
returns-in-Fallback c = search within_fallback

pub returns-in-Nothing : goal.returns-in-Nothing
returns-in-Nothing c = search within_nothing

pub returns-in-Refused : goal.returns-in-Refused
returns-in-Refused c = search within_refused
