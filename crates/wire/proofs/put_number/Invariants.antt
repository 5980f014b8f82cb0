-- What is still to be laid makes the list that is promised.
use Rattle.std.proofs.Common.{◌+◌, ◌-◌, length}
use Rattle.encoding.specs.Number.{le_bytes}
use Rattle.wire.specs.Put.{put}
use Rattle.wire.proofs.Writes.{Laying}
use Rattle.wire.proofs.put_number.Given as goal

abbrev pub invariant-loop-i : goal.invariant-loop-i
invariant-loop-i l = Laying (put l.at (le_bytes l.k l.v) l.fn.out) (length l.fn.out) (le_bytes (l.at + l.k - l.i) l.rest) l.i l.out
