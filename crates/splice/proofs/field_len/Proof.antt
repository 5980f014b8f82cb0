-- By the form. Assumes nothing.
use borrow.Author.Rules.{rules}
use native.Mathlib.Omega.{arith}
use Rattle.splice.proofs.Putting.{field_none, field_size, field_int}
use Rattle.splice.proofs.field_len.Statement.{statement}
use Rattle.splice.proofs.field_len.Tie as tie

pub field_len_spec : {M : Type 1} → statement M
field_len_spec =
    tie.close
    (tie.spec
    (λ c. (search field_none, omega arith))  -- returns
    (λ c κs. search rules)  -- size-len-requires
    (λ c. (search field_size, search rules))  -- returns_2
    (λ c. (search field_int, omega arith)))  -- returns_3
