-- What is still to be laid makes the list that is promised.
use Rattle.std.proofs.Common.{◌+◌, length, drop}
use Rattle.wire.specs.Put.{put}
use Rattle.wire.proofs.Writes.{Laying}
use Rattle.wire.proofs.put_bytes.Given as goal

abbrev pub invariant-loop-i : goal.invariant-loop-i
invariant-loop-i l = Laying (put l.at l.from l.fn.out) (length l.fn.out) (drop l.i l.from) (l.at + l.i) l.out
