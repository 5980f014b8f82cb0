-- The number is that of the verdict on the table. Assumes nothing.
use borrow.Author.Rules.{rules}
use Rattle.numbers.proofs.Judged.{rule_same}
use Rattle.icehub.proofs.icehub_table.Statement.{statement}
use Rattle.icehub.proofs.icehub_table.Tie as tie

pub icehub_table_spec : {M : Type 1} → statement M
icehub_table_spec =
    tie.close
    (tie.spec
    (λ c κs. search rules)  -- check-requires
    (λ c κs. search rules)  -- rule-requires
    (λ c. search rule_same))  -- returns
