-- By whether `from` is t, then by whether t is plain. Assumes nothing.
use Rattle.rules.proofs.Judging.{past_plain, past_record, past_before}
use Rattle.rules.proofs.past.Goals as goal

pub returns-then-plain : goal.returns-then-plain
returns-then-plain c = search past_plain

pub returns-else-plain : goal.returns-else-plain
returns-else-plain c = search past_record

pub returns-else-from-t : goal.returns-else-from-t
returns-else-from-t c = search past_before
