-- Each arm gives what `rows_of` gives of its case. Assumes nothing.
use Rattle.rowlist.proofs.Laying.{told_accepted, told_refused}
use Rattle.rowlist.proofs.rows_given.Goals as goal

pub returns-in-Accepted : goal.returns-in-Accepted
returns-in-Accepted c = search told_accepted

pub returns-in-Refused : goal.returns-in-Refused
returns-in-Refused c = search told_refused
