-- By the kind, since each kind has its own rules. Assumes nothing.
use Rattle.rules.proofs.Judging.{kind_enum, kind_struct, kind_seq, kind_dict, kind_record, kind_list, kind_plain}
use Rattle.rules.proofs.kind_row.Goals as goal

pub returns-then-k-eq8 : goal.returns-then-k-eq8
returns-then-k-eq8 c = search kind_enum

pub returns-then-k-eq9 : goal.returns-then-k-eq9
returns-then-k-eq9 c = search kind_struct

pub returns-then-k-eq10 : goal.returns-then-k-eq10
returns-then-k-eq10 c = search kind_seq

pub returns-then-k-eq11 : goal.returns-then-k-eq11
returns-then-k-eq11 c = search kind_dict

pub returns-then-is_record : goal.returns-then-is_record
returns-then-is_record c = search kind_record

pub returns-then-k-eq15 : goal.returns-then-k-eq15
returns-then-k-eq15 c = search kind_list

pub returns : goal.returns
returns c = search kind_plain
