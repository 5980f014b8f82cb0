-- A difference replaces its own 20 bytes. Assumes nothing.
use Rattle.listing.proofs.Entering.{entry_put}
use borrow.Author.Rules.{rules}
use Rattle.listing.proofs.entries.put_entry.Statement.{statement}
use Rattle.listing.proofs.entries.put_entry.Tie as tie

pub put_entry_spec : {M : Type 1} → statement M
put_entry_spec =
    tie.close
    (tie.spec
    (λ c. search rules)  -- mul-a
    (λ c. search rules)  -- add-put-five
    (λ c. search rules)  -- sub-put-five
    (λ c. search rules)  -- part-put-five-start
    (λ c. search rules)  -- part-put-five-end
    (λ c κs. search rules)  -- put-five-requires
    (λ c. search rules)  -- same-length
    (λ c. search entry_put))  -- returns
