-- The rows are copied from the call's own list, which holds as many as there can be. Assumes nothing.
use borrow.Author.Rules.{rules}
use Rattle.reading.proofs.Telling.{unasked, old_unasked, list_all}
use Rattle.reading.proofs.walk_more.Statement.{statement}
use Rattle.reading.proofs.walk_more.Tie as tie

pub walk_more_spec : {M : Type 1} → statement M
walk_more_spec =
    tie.close
    (tie.spec
    (λ c. search rules)  -- slice-aggregate-walk
    (λ c κs. (search unasked, search old_unasked))  -- walk-requires
    (λ c. search rules)  -- slice-aggregate-copied
    (λ c κs. search rules)  -- copied-requires
    (λ c. search rules)  -- same-length
    (λ c. search list_all))  -- returns
