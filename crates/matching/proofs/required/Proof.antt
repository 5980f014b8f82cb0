-- They are counted. Assumes nothing.
use Rattle.matching.proofs.Judging.{required_room, required_none}
use borrow.Author.Rules.{rules}
use Rattle.matching.proofs.required.Statement.{statement}
use Rattle.matching.proofs.required.Tie as tie

pub required_spec : {M : Type 1} → statement M
required_spec =
    tie.close
    (tie.spec
    (λ c. search rules)  -- slice-aggregate-required
    (λ c κs. (search rules, (search rules, (search rules, search rules, search required_room))))  -- required-requires
    (λ c. search required_none))  -- returns
