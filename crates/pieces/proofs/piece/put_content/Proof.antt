-- As much of the part as the buffer has is put; a long part that lies in the buffer in two puts. Assumes nothing.
use borrow.Author.Rules.{rules}
use Rattle.pieces.proofs.Judges.{part_inside}
use Rattle.pieces.proofs.Fields.{content_put}
use Rattle.pieces.proofs.piece.put_content.Statement.{statement}
use Rattle.pieces.proofs.piece.put_content.Tie as tie

pub put_content_spec : {M : Type 1} → statement M
put_content_spec =
    tie.close
    (tie.spec
    (λ c κs. search rules)  -- fits-requires
    (λ c κs. search (rules, part_inside))  -- put-long-requires
    (λ c. search rules)  -- same-length
    (λ c. search rules)  -- returns
    (λ c κs. search rules)  -- put-part-requires
    (λ c κs. search rules)  -- part-len-requires
    (λ c. search rules)  -- add_result
    (λ c. search rules)  -- same-length-2
    (λ c. search (rules, content_put)))  -- returns_2
