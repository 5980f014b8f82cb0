-- Nothing is there to remove, or the exchange. Assumes nothing.
use borrow.Author.Rules.{rules}
use Rattle.change.proofs.Plans.{last_fits, spot_gone, spot_made}
use Rattle.change.proofs.planning.at_spot.Statement.{statement}
use Rattle.change.proofs.planning.at_spot.Tie as tie

pub at_spot_spec : {M : Type 1} → statement M
at_spot_spec =
    tie.close
    (tie.spec
    (λ c κs. search rules)  -- is-gone-requires
    (λ c. search spot_gone)  -- returns
    (λ c κs. search rules)  -- either-requires
    (λ c κs. search rules)  -- cut-end-requires
    (λ c. search (rules, last_fits))  -- add-last
    (λ c κs. search rules)  -- has-marker-requires
    (λ c. search rules)  -- add-t18
    (λ c. search spot_made))  -- returns_2
