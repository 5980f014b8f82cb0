-- Each arm puts what `view_bytes` gives of its case, a row of three numbers. Assumes nothing.
use Rattle.view.proofs.Numbering.{part_put, fallback_put, nothing_put, refused_put}
use Rattle.view.proofs.put_view.Goals as goal

pub returns-in-Part : goal.returns-in-Part
returns-in-Part c = search part_put

pub returns-in-Fallback : goal.returns-in-Fallback
returns-in-Fallback c = search fallback_put

pub returns-in-Nothing : goal.returns-in-Nothing
returns-in-Nothing c = search nothing_put

pub returns-in-Refused : goal.returns-in-Refused
returns-in-Refused c = search refused_put
