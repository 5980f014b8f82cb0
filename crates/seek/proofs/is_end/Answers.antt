-- Past the end, or by the byte there.
use Rattle.seek.proofs.Seeking.{end_past, end_byte}
use Rattle.seek.proofs.is_end.Goals as goal

pub returns-then-s-at : goal.returns-then-s-at
returns-then-s-at c = search end_past

pub returns-else-s-at : goal.returns-else-s-at
returns-else-s-at c = search end_byte
