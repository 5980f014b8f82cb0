-- The rows are copied from the call's own list, which holds as many as there can be. Assumes nothing.
use borrow.Author.Rules.{rules}
use Rattle.reading.proofs.Telling.{unasked, old_unasked, list_more}
use Rattle.reading.proofs.walk_hundred.Statement.{statement}
use Rattle.reading.proofs.walk_hundred.Tie as tie

pub walk_hundred_spec : {M : Type 1} → statement M
walk_hundred_spec =
    tie.close
    (tie.spec
    (λ c. search rules)  -- slice-aggregate-walk
    (λ c κs. (search unasked, search old_unasked))  -- walk-requires
    (λ c. search rules)  -- slice-aggregate-copied
    (λ c κs. search rules)  -- copied-requires
    (λ c. search rules)  -- same-length
    (λ c. search list_more))  -- returns
