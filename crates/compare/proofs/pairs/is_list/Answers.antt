-- By its kind. Assumes nothing.
use Rattle.compare.proofs.Pairing.{list_kind}
use Rattle.compare.proofs.pairs.is_list.Goals as goal

pub returns : goal.returns
returns c = search list_kind
