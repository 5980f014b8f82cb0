-- By the encoding. Assumes nothing.
use Rattle.writer.proofs.Walks.{version_old, version_new}
use Rattle.writer.proofs.message.version.Statement.{statement}
use Rattle.writer.proofs.message.version.Tie as tie

pub version_spec : {M : Type 1} → statement M
version_spec =
    tie.close
    (tie.spec
    (λ c. search version_old)  -- returns
    (λ c. search version_new))  -- returns_2
