-- By the format, then by the kind. Assumes nothing.
use Rattle.prepare.proofs.Checking.{format_one, format_other, format_two}
use Rattle.prepare.proofs.no_format.Statement.{statement}
use Rattle.prepare.proofs.no_format.Tie as tie

pub no_format_spec : {M : Type 1} → statement M
no_format_spec =
    tie.close
    (tie.spec
    (λ c. search format_one)  -- returns
    (λ c. search format_other)  -- returns_2
    (λ c. search format_two))  -- returns_3
