-- Five numbers put one after another into 20 bytes are those bytes. Assumes nothing.
use borrow.Author.Rules.{rules}
use Rattle.reading.proofs.Numbering.{five_put}
use Rattle.reading.proofs.put_five.Statement.{statement}
use Rattle.reading.proofs.put_five.Tie as tie

pub put_five_spec : {M : Type 1} → statement M
put_five_spec =
    tie.close
    (tie.spec
    (λ c κs. search rules)  -- put-number-requires
    (λ c κs. search rules)  -- put-number-requires-2
    (λ c κs. search rules)  -- put-number-requires-3
    (λ c κs. search rules)  -- put-number-requires-4
    (λ c κs. search rules)  -- put-number-requires-5
    (λ c. search rules)  -- same-length
    (λ c. search five_put))  -- returns
