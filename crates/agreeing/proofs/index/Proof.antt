-- The index of a row is that of a part of the whole table. Assumes nothing.
use Rattle.agreeing.proofs.Cells.{index_is}
use borrow.Author.Rules.{rules}
use Rattle.agreeing.proofs.index.Statement.{statement}
use Rattle.agreeing.proofs.index.Tie as tie

pub index_spec : {M : Type 1} → statement M
index_spec =
    tie.close
    (tie.spec
    (λ c κs. search rules)  -- rows-requires
    (λ c κs. search rules)  -- index-below-requires
    (λ c. search (rules, index_is)))  -- returns
