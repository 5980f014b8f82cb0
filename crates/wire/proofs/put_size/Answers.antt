-- A size of one byte is a number of one byte; a longer one is 255 and an int after it, where all five bytes fit.
use Rattle.wire.proofs.Writes.{size_put_short, size_put_long, size_put_over}
use Rattle.wire.proofs.put_size.Goals as goal

pub returns-then-n-lt255 : goal.returns-then-n-lt255
returns-then-n-lt255 c = search size_put_short

pub returns-then-fits : goal.returns-then-fits
returns-then-fits c = search size_put_long

pub returns-else-fits : goal.returns-else-fits
returns-else-fits c = search size_put_over
