-- Sequences, enums and dictionaries have their functions, a proxy has its test; no other kind passes. Assumes nothing.
use Rattle.onepass.proofs.Passing.{proxy_passed}
use Rattle.onepass.proofs.alone_row.Goals as goal

pub returns : goal.returns
returns c = search proxy_passed
