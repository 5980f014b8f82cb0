-- By the top's kind.
use Rattle.seek.proofs.Seeking.{slot_list, slot_class, slot_exception}
use Rattle.seek.proofs.members_in.Goals as goal

pub returns-then-k-eq15-clause-value : goal.returns-then-k-eq15-clause-value
returns-then-k-eq15-clause-value c = search slot_list

pub returns-then-k-eq14-clause-value : goal.returns-then-k-eq14-clause-value
returns-then-k-eq14-clause-value c = search slot_class

pub returns-clause-value : goal.returns-clause-value
returns-clause-value c = search slot_exception
