-- A refusal of the arguments, then 22, then the length.
use Rattle.endpoint.proofs.Writings.{written_refused, short_host, written_limit, written_room, written_is}
use Rattle.endpoint.proofs.writes.endpoint_written.Goals.{then-n-gt65536-via-then-n-gt65536, then-n-gt65536-via-else-n-gt65536+then-room-n}
use Rattle.endpoint.proofs.writes.endpoint_written.Goals as goal

pub returns-in-Err : goal.returns-in-Err
returns-in-Err c = search written_refused

pub needed-n-requires : goal.needed-n-requires
needed-n-requires c = search short_host

pub returns-then-n-gt65536 : goal.returns-then-n-gt65536
returns-then-n-gt65536 c =
    elim c.then-n-gt65536.branch [
      | then-n-gt65536-via-then-n-gt65536 w ↦ search written_limit
      | then-n-gt65536-via-else-n-gt65536+then-room-n w ↦ search written_room
    ]

pub returns : goal.returns
returns c = search written_is
