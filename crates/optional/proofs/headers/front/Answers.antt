-- One case of `front` for each way out, by the first byte's bits and the size after it.
use borrow.Author.Rules.{rules}
use Rattle.optional.proofs.Heads.{front_none, front_unused, front_short, front_long, front_bad, long_fits, long_place}
use Rattle.optional.proofs.headers.front.Goals as goal

pub returns-then-s-lt1 : goal.returns-then-s-lt1
returns-then-s-lt1 c = search front_none

pub returns-then-tag-ge31 : goal.returns-then-tag-ge31
returns-then-tag-ge31 c = search front_unused

pub returns-then-tag-ne30 : goal.returns-then-tag-ne30
returns-then-tag-ne30 c = search front_short

pub overflow_add-result : goal.overflow_add-result
overflow_add-result c = search (rules, long_fits)

pub behind-requires : goal.behind-requires
behind-requires c = search (rules, long_place)

pub returns-in-Ok : goal.returns-in-Ok
returns-in-Ok c = search front_long

pub returns-in-Err : goal.returns-in-Err
returns-in-Err c = rw c.behind.ensures (search front_bad)
