-- The rules of an enum are tested in turn; its shape is 4. Assumes nothing.
use Rattle.onepass.proofs.Passing.{enum_passed}
use Rattle.onepass.proofs.enum_row.Goals as goal

pub returns : goal.returns
returns c = search enum_passed
