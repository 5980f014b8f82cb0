-- By the row's kind.
use borrow.Author.Rules.{rules}
use Rattle.shapes.proofs.Filling.{row_of_struct, row_of_seq, row_of_dict, row_of_none}
use Rattle.shapes.proofs.row_shape.Goals as goal

pub returns-then-k-eq9 : goal.returns-then-k-eq9
returns-then-k-eq9 c = search (rules, row_of_struct, row_of_seq, row_of_dict, row_of_none)

pub returns-then-k-eq10 : goal.returns-then-k-eq10
returns-then-k-eq10 c = search (rules, row_of_struct, row_of_seq, row_of_dict, row_of_none)

pub returns-then-k-eq11 : goal.returns-then-k-eq11
returns-then-k-eq11 c = search (rules, row_of_struct, row_of_seq, row_of_dict, row_of_none)

pub returns : goal.returns
returns c = search (rules, row_of_struct, row_of_seq, row_of_dict, row_of_none)
