-- The loop's invariant: the optionals from the place at hand on decide the answer. The measure is the bytes left.
use borrow.Author.Rules.{rules}
use Rattle.seek.proofs.Seeking.{tags_end, tags_wrong, tags_known, tags_fits, tags_less, tags_before, spot_here, tags_here, tags_next, other_before, other_after}
use Rattle.seek.proofs.find_tag.Goals as goal

pub returns-then-is_end-clause-result_value : goal.returns-then-is_end-clause-result_value
returns-then-is_end-clause-result_value c = search tags_end

pub returns-then-tag-t-clause-result_value : goal.returns-then-tag-t-clause-result_value
returns-then-tag-t-clause-result_value c = search tags_before

pub overflow_add-at : goal.overflow_add-at
overflow_add-at c = search (rules, tags_fits)

pub overflow_add-result : goal.overflow_add-result
overflow_add-result c = search (rules, tags_fits)

pub returns-then-least-gt0-clause-result_value : goal.returns-then-least-gt0-clause-result_value
returns-then-least-gt0-clause-result_value c = search (tags_here, other_before)

pub returns-then-least-gt0-clause-spot_inside : goal.returns-then-least-gt0-clause-spot_inside
returns-then-least-gt0-clause-spot_inside c = search spot_here

pub returns-else-least-gt0-clause-result_value : goal.returns-else-least-gt0-clause-result_value
returns-else-least-gt0-clause-result_value c = search (tags_here, other_after)

pub returns-else-least-gt0-clause-spot_inside : goal.returns-else-least-gt0-clause-spot_inside
returns-else-least-gt0-clause-spot_inside c = search spot_here

pub overflow_add-at-in-Skipped : goal.overflow_add-at-in-Skipped
overflow_add-at-in-Skipped c = search (rules, tags_fits)

pub loop-begin-smaller : goal.loop-begin-smaller
loop-begin-smaller c = search tags_less

pub loop-begin-preserved : goal.loop-begin-preserved
loop-begin-preserved c = search tags_next

pub returns-in-Known-clause-result_value : goal.returns-in-Known-clause-result_value
returns-in-Known-clause-result_value c = search tags_known

pub returns-in-Err-clause-result_value : goal.returns-in-Err-clause-result_value
returns-in-Err-clause-result_value c = search tags_wrong
