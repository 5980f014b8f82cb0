-- The part that is judged is the row's name. Assumes nothing.
use Rattle.rules.proofs.Judging.{name_text_is}
use Rattle.rules.proofs.is_name_text.Goals as goal

pub returns : goal.returns
returns c = search name_text_is
