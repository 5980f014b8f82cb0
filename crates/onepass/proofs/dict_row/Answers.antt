-- The rules of a dictionary are tested in turn; its shape goes by its key and its value. Assumes nothing.
use Rattle.onepass.proofs.Passing.{key_passed, value_passed}
use Rattle.onepass.proofs.dict_row.Goals as goal

pub returns-then-not-is_fixed : goal.returns-then-not-is_fixed
returns-then-not-is_fixed c = search key_passed

pub returns : goal.returns
returns c = search value_passed
