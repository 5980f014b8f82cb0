-- Size and version are those of 1.1, and the members are read. Assumes nothing.
use native.Mathlib.Omega.{arith}
use Rattle.reader.proofs.Plainly.{plain_not, seated_first, seated_takes, seated_inside, seated_bare, plain_body}
use Rattle.reader.proofs.plain.plain.Goals as goal

pub returns-then-seat-eq0 : goal.returns-then-seat-eq0
returns-then-seat-eq0 c = search plain_not

pub returns-then-m-lt6 : goal.returns-then-m-lt6
returns-then-m-lt6 c = search plain_not

pub returns-then-int_at-m : goal.returns-then-int_at-m
returns-then-int_at-m c = search plain_not

pub returns-then-short_at-ne257 : goal.returns-then-short_at-ne257
returns-then-short_at-ne257 c = search plain_not

pub members-requires-clause-first_value : goal.members-requires-clause-first_value
members-requires-clause-first_value c = search seated_first

pub members-requires-clause-takes : goal.members-requires-clause-takes
members-requires-clause-takes c = search seated_takes

pub members-requires-clause-whole : goal.members-requires-clause-whole
members-requires-clause-whole c = search seated_inside

pub members-requires-clause-bare_value : goal.members-requires-clause-bare_value
members-requires-clause-bare_value c = search seated_bare

pub members-requires-clause-in_bounds : goal.members-requires-clause-in_bounds
members-requires-clause-in_bounds c = omega arith

pub returns : goal.returns
returns c = search plain_body
