-- As much of the part as the buffer has. Assumes nothing.
use borrow.Author.Rules.{rules}
use native.Mathlib.Omega.{arith}
use Rattle.pieces.proofs.Parts.{part_past, part_whole, part_cut}
use Rattle.pieces.proofs.rows.part_len.Statement.{statement}
use Rattle.pieces.proofs.rows.part_len.Tie as tie

pub part_len_spec : {M : Type 1} → statement M
part_len_spec =
    tie.close
    (tie.spec
    (λ c. search (rules, part_past))  -- returns
    (λ c. search rules)  -- sub-if2
    (λ c. (search part_whole, omega arith))  -- returns_2
    (λ c. search rules)  -- sub_result
    (λ c. (search part_cut, omega arith)))  -- returns_3
