-- Bytes are laid one by one.
use Rattle.wire.proofs.Writes.{bytes_begin, bytes_over}
use Rattle.wire.proofs.put_bytes.Goals as goal

pub loop-i-init : goal.loop-i-init
loop-i-init c = search bytes_begin

pub returns-else-fits : goal.returns-else-fits
returns-else-fits c = search bytes_over
