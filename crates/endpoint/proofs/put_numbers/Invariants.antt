-- The numbers before the next one are put.
use Rattle.std.proofs.Common.{◌≡◌, take}
use Rattle.wire.specs.Put.{put}
use Rattle.endpoint.specs.Parts.{int_bytes}
use Rattle.endpoint.proofs.put_numbers.Given as goal

abbrev pub invariant-loop-i : goal.invariant-loop-i
invariant-loop-i l = l.lent ≡ put 0 (int_bytes (take l.i l.numbers)) l.fn.lent
