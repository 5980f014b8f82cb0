-- What `judge_old` says, and for a list whose rows lie inside the table the rows that it takes. Assumes nothing.
use borrow.Author.Rules.{rules}
use Rattle.reader.proofs.Plainly.{seated_list}
use Rattle.reader.proofs.plain.seat.Statement.{statement}
use Rattle.reader.proofs.plain.seat.Tie as tie

pub seat_spec : {M : Type 1} → statement M
seat_spec =
    tie.close
    (tie.spec
    (λ c κs. search rules)  -- judge-old-requires
    (λ c κs. search rules)  -- type-row-requires
    (λ c κs. search rules)  -- members-at-requires
    (λ c. search rules)  -- add_stop
    (λ c κs. search rules)  -- whole-requires
    (λ c κs. search rules)  -- bare-from-requires
    (λ c. search seated_list)  -- returns
    (λ c. search rules)  -- returns_2
    (λ c. search rules))  -- returns_3
