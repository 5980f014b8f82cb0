-- The owner's row says which member rows are looked at.
use Rattle.old.proofs.Laws.{members_optional}
use Rattle.old.proofs.has_optionals.Goals as goal

pub returns : goal.returns
returns c = search members_optional
