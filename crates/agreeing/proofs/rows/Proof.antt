-- Rows of different weights or kinds differ; else each kind has its case of `same_ty`. Assumes nothing.
use Rattle.agreeing.proofs.Cells.{rows_heavier, rows_differ, rows_enum, rows_struct, rows_seq, rows_dict, rows_dict_not, rows_plain}
use borrow.Author.Rules.{rules}
use Rattle.agreeing.proofs.rows.Statement.{statement}
use Rattle.agreeing.proofs.rows.Tie as tie

pub rows_spec : {M : Type 1} → statement M
rows_spec =
    tie.close
    (tie.spec
    (λ c. search rows_heavier)  -- returns
    (λ c κs. search rules)  -- kind-requires
    (λ c. search rows_differ)  -- returns-1
    (λ c κs. search rules)  -- enums-requires
    (λ c. search rows_enum)  -- returns_2
    (λ c κs. search rules)  -- structs-requires
    (λ c. search rows_struct)  -- returns_3
    (λ c κs. search rules)  -- part-requires
    (λ c. search rows_seq)  -- returns_4
    (λ c κs. search rules)  -- part-requires-2
    (λ c κs. search rules)  -- part-requires-3
    (λ c. search rows_dict)  -- returns_5
    (λ c. search rows_dict_not)  -- returns_6
    (λ c. search rows_plain))  -- returns-7
