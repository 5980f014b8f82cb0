-- Each way out is a case of `below`. Assumes nothing.
use Rattle.agreeing.proofs.Cells.{below_none_is, below_is}
use borrow.Author.Rules.{rules}
use Rattle.agreeing.proofs.index_below.Statement.{statement}
use Rattle.agreeing.proofs.index_below.Tie as tie

pub index_below_spec : {M : Type 1} → statement M
index_below_spec =
    tie.close
    (tie.spec
    (λ c. search (rules, below_none_is))  -- returns
    (λ c. search rules)  -- add_result
    (λ c. search (rules, below_is)))  -- returns_2
