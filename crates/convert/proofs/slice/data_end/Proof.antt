-- With the end marker, or without. Assumes nothing.
use borrow.Author.Rules.{rules}
use Rattle.convert.proofs.Moving.{end_marked, end_plain}
use Rattle.convert.proofs.slice.data_end.Statement.{statement}
use Rattle.convert.proofs.slice.data_end.Tie as tie

pub data_end_spec : {M : Type 1} → statement M
data_end_spec =
    tie.close
    (tie.spec
    (λ c. search rules)  -- add-least
    (λ c κs. search rules)  -- least-requires
    (λ c. search end_marked)  -- returns
    (λ c κs. search rules)  -- least-requires-2
    (λ c. search end_plain))  -- returns_2
