-- The five numbers of an accepted message replace the first 20 bytes. Assumes nothing.
use borrow.Author.Rules.{rules}
use Rattle.reading.proofs.Numbering.{five_lent, none_put}
use Rattle.reading.proofs.put_numbers.Statement.{statement}
use Rattle.reading.proofs.put_numbers.Tie as tie

pub put_numbers_spec : {M : Type 1} → statement M
put_numbers_spec =
    tie.close
    (tie.spec
    (λ c. search rules)  -- enum-known-a
    (λ c. search rules)  -- sub-put-five
    (λ c. search rules)  -- part-put-five-start
    (λ c. search rules)  -- part-put-five-end
    (λ c. search rules)  -- cast-put-five
    (λ c. search rules)  -- cast-put-five-2
    (λ c. search rules)  -- cast-put-five-3
    (λ c. search rules)  -- cast-put-five-4
    (λ c. search rules)  -- cast-put-five-5
    (λ c κs. search rules)  -- put-five-requires
    (λ c. search rules)  -- enum-known-a-2
    (λ c. search rules)  -- same-length
    (λ c. search five_lent)  -- returns
    (λ c. search none_put))  -- returns_2
