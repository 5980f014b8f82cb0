-- What is left and what is new. Assumes nothing.
use borrow.Author.Rules.{rules}
use Rattle.splice.proofs.Putting.{cut_order, cut_fewer, size_sum, size_few, size_fits, size_fits_all}
use Rattle.splice.proofs.size_after.Statement.{statement}
use Rattle.splice.proofs.size_after.Tie as tie

pub size_after_spec : {M : Type 1} → statement M
size_after_spec =
    tie.close
    (tie.spec
    (λ c. search (rules, cut_order))  -- sub_result
    (λ c. search (rules, cut_fewer))  -- sub-result-2
    (λ c κs. search rules)  -- piece-len-requires
    (λ c. search (rules, size_fits))  -- add_result
    (λ c κs. search rules)  -- marker-len-requires
    (λ c. search (rules, size_fits_all))  -- add_result_2
    (λ c. (search size_sum, search size_few)))  -- returns
