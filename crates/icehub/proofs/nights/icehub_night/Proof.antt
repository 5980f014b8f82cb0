-- The number is that of the walk; both lists are as the walk leaves them. Assumes nothing.
use borrow.Author.Rules.{rules}
use Rattle.icehub.proofs.Counted.{count_same}
use Rattle.icehub.proofs.nights.icehub_night.Statement.{statement}
use Rattle.icehub.proofs.nights.icehub_night.Tie as tie

pub icehub_night_spec : {M : Type 1} → statement M
icehub_night_spec =
    tie.close
    (tie.spec
    (λ c κs. search rules)  -- night-requires
    (λ c. search rules)  -- same-length
    (λ c. search rules)  -- same-length-2
    (λ c. (search count_same, (search rules, search rules))))  -- returns
