-- The size, and the name after it. Assumes nothing.
use borrow.Author.Rules.{rules}
use Rattle.writer.proofs.Names.{id_long}
use Rattle.writer.proofs.slice.id_len.Statement.{statement}
use Rattle.writer.proofs.slice.id_len.Tie as tie

pub id_len_spec : {M : Type 1} → statement M
id_len_spec =
    tie.close
    (tie.spec
    (λ c κs. search rules)  -- name-length-requires
    (λ c κs. search rules)  -- size-len-requires
    (λ c. search rules)  -- add_result
    (λ c. search (rules, id_long)))  -- returns
