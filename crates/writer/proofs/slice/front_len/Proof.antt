-- A parameter list has no front. Assumes nothing.
use borrow.Author.Rules.{rules}
use native.Mathlib.Omega.{arith}
use Rattle.writer.proofs.Names.{id_long}
use Rattle.writer.proofs.Fronts.{front_list, front_slice}
use Rattle.writer.proofs.slice.front_len.Statement.{statement}
use Rattle.writer.proofs.slice.front_len.Tie as tie

pub front_len_spec : {M : Type 1} → statement M
front_len_spec =
    tie.close
    (tie.spec
    (λ c. (search front_list, omega arith))  -- returns
    (λ c κs. search rules)  -- bare-len-requires
    (λ c κs. search rules)  -- size-len-requires
    (λ c. search rules)  -- add-t
    (λ c. search rules)  -- add_result
    (λ c. (search (front_slice, id_long), omega arith)))  -- returns_2
