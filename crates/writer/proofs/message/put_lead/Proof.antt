-- By the kind, then by the encoding. Assumes nothing.
use borrow.Author.Rules.{rules}
use native.Mathlib.Omega.{arith}
use Rattle.writer.proofs.Walks.{put_list, put_class, put_old, put_new}
use Rattle.writer.proofs.message.put_lead.Statement.{statement}
use Rattle.writer.proofs.message.put_lead.Tie as tie

pub put_lead_spec : {M : Type 1} → statement M
put_lead_spec =
    tie.close
    (tie.spec
    (λ c. (search put_list, omega arith))  -- returns
    (λ c κs. search rules)  -- put-number-requires
    (λ c. search rules)  -- same-length
    (λ c. (search put_class, omega arith))  -- returns_2
    (λ c κs. search rules)  -- put-number-requires-2
    (λ c. search rules)  -- same-length-2
    (λ c. (search put_old, omega arith))  -- returns_3
    (λ c. (search put_new, omega arith)))  -- returns_4
