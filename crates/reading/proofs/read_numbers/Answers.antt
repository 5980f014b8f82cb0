-- Too few bytes for the numbers: the answer alone, and no lent byte changes. Else one read, and its numbers put. Assumes nothing.
use Rattle.reading.proofs.Telling.{told_listed, anew_most, anew_listed, anew_list}
use Rattle.reading.proofs.Numbering.{skipped_few, few_told, few_listed, few_numbered, enough_told, enough_listed, enough_numbered}
use Rattle.reading.proofs.read_numbers.Goals as goal

pub returns-then-numbers-lt20-clause-value : goal.returns-then-numbers-lt20-clause-value
returns-then-numbers-lt20-clause-value c = search few_told

pub returns-then-numbers-lt20-clause-rows_after : goal.returns-then-numbers-lt20-clause-rows_after
returns-then-numbers-lt20-clause-rows_after c = search few_listed

pub returns-then-numbers-lt20-clause-numbers_after : goal.returns-then-numbers-lt20-clause-numbers_after
returns-then-numbers-lt20-clause-numbers_after c = search few_numbered

pub returns-then-most-le5-clause-value : goal.returns-then-most-le5-clause-value
returns-then-most-le5-clause-value c = search (enough_told, told_listed)

pub returns-then-most-le5-clause-rows_after : goal.returns-then-most-le5-clause-rows_after
returns-then-most-le5-clause-rows_after c = search enough_listed

pub returns-then-most-le5-clause-numbers_after : goal.returns-then-most-le5-clause-numbers_after
returns-then-most-le5-clause-numbers_after c = search (enough_numbered, told_listed)

pub returns-then-most-le21-clause-value : goal.returns-then-most-le21-clause-value
returns-then-most-le21-clause-value c = search (enough_told, told_listed)

pub returns-then-most-le21-clause-rows_after : goal.returns-then-most-le21-clause-rows_after
returns-then-most-le21-clause-rows_after c = search enough_listed

pub returns-then-most-le21-clause-numbers_after : goal.returns-then-most-le21-clause-numbers_after
returns-then-most-le21-clause-numbers_after c = search (enough_numbered, told_listed)

pub returns-then-most-le128-clause-value : goal.returns-then-most-le128-clause-value
returns-then-most-le128-clause-value c = search (enough_told, told_listed)

pub returns-then-most-le128-clause-rows_after : goal.returns-then-most-le128-clause-rows_after
returns-then-most-le128-clause-rows_after c = search enough_listed

pub returns-then-most-le128-clause-numbers_after : goal.returns-then-most-le128-clause-numbers_after
returns-then-most-le128-clause-numbers_after c = search (enough_numbered, told_listed)

pub returns-clause-value : goal.returns-clause-value
returns-clause-value c = search (enough_told, told_listed, anew_listed)

pub returns-clause-rows_after : goal.returns-clause-rows_after
returns-clause-rows_after c = search (enough_listed, anew_list)

pub returns-clause-numbers_after : goal.returns-clause-numbers_after
returns-clause-numbers_after c = search (enough_numbered, told_listed, anew_listed)

pub numbered-requires-clause-few_skipped : goal.numbered-requires-clause-few_skipped
numbered-requires-clause-few_skipped c = search skipped_few

pub numbered-requires-then-most-le21-clause-few_skipped : goal.numbered-requires-then-most-le21-clause-few_skipped
numbered-requires-then-most-le21-clause-few_skipped c = search skipped_few

pub numbered-requires-then-most-le128-clause-few_skipped : goal.numbered-requires-then-most-le128-clause-few_skipped
numbered-requires-then-most-le128-clause-few_skipped c = search skipped_few

pub walk_long-requires : goal.walk_long-requires
walk_long-requires c = search anew_most

pub numbered-requires-2-clause-few_skipped : goal.numbered-requires-2-clause-few_skipped
numbered-requires-2-clause-few_skipped c = search (skipped_few, anew_listed)
