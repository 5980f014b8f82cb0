-- The list is judged by its length. Assumes nothing.
use Rattle.compare.proofs.Telling.{list_filled, same_answer}
use borrow.Author.Rules.{rules}
use Rattle.compare.proofs.compare.Statement.{statement}
use Rattle.compare.proofs.compare.Tie as tie

pub compare_spec : {M : Type 1} → statement M
compare_spec =
    tie.close
    (tie.spec
    (λ c κs. search rules)  -- judge-requires
    (λ c. search rules)  -- same-length
    (λ c. (search same_answer, search list_filled)))  -- returns
