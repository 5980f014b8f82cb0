-- What 26 judges, as a number. Assumes nothing.
use borrow.Author.Rules.{rules}
use Rattle.reader.proofs.Bodies.{judged_barred, judged_free}
use Rattle.reader.proofs.judge_old.Statement.{statement}
use Rattle.reader.proofs.judge_old.Tie as tie

pub judge_old_spec : {M : Type 1} → statement M
judge_old_spec =
    tie.close
    (tie.spec
    (λ c κs. search rules)  -- no-old-requires
    (λ c. search judged_barred)  -- returns
    (λ c. search judged_free))  -- returns_2
