-- A byte, or nothing. Assumes nothing.
use borrow.Author.Rules.{rules}
use Rattle.splice.proofs.Putting.{marker_put, marker_skip}
use Rattle.splice.proofs.put_marker.Statement.{statement}
use Rattle.splice.proofs.put_marker.Tie as tie

pub put_marker_spec : {M : Type 1} → statement M
put_marker_spec =
    tie.close
    (tie.spec
    (λ c κs. search rules)  -- put-number-requires
    (λ c. search rules)  -- add_result
    (λ c. search rules)  -- same-length
    (λ c. search marker_put)  -- returns
    (λ c. search marker_skip))  -- returns_2
