-- The rules of a struct are tested in turn, then its members. Assumes nothing.
use Rattle.onepass.proofs.Passing.{struct_passed}
use Rattle.onepass.proofs.struct_row.Goals as goal

pub returns : goal.returns
returns c = search struct_passed
