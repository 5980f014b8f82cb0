-- Each arm gives the number of its case. Assumes nothing.
use Rattle.numbers.proofs.Viewed.{part_number, fallback_number, nothing_number, refused_number}
use Rattle.numbers.proofs.view_number.Goals as goal

pub returns-in-Part : goal.returns-in-Part
returns-in-Part c = search part_number

pub returns-in-Fallback : goal.returns-in-Fallback
returns-in-Fallback c = search fallback_number

pub returns-in-Nothing : goal.returns-in-Nothing
returns-in-Nothing c = search nothing_number

pub returns-in-Refused : goal.returns-in-Refused
returns-in-Refused c = search refused_number
