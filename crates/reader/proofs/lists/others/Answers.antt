-- The loop's invariant: the outcome follows from the optionals ahead. The measure is the bytes left. Assumes nothing.
use borrow.Author.Rules.{rules}
use Rattle.slices.proofs.Endings.{put_keeps}
use Rattle.reader.proofs.Listing.{listing_end, listing_less, listing_start, listing_place, listing_fits, listing_tag, listing_few, listing_known, listing_past_less, listing_past_fits, listing_past_tag, listing_skipped, listing_stop, listing_wrong}
use Rattle.reader.proofs.lists.others.Goals as goal

pub overflow_add-result : goal.overflow_add-result
overflow_add-result c = search listing_stop

pub returns-in-Err-clause-ends : goal.returns-in-Err-clause-ends
returns-in-Err-clause-ends c = search listing_wrong

pub overflow_add-at : goal.overflow_add-at
overflow_add-at c = search listing_place

pub overflow_sub-bytes : goal.overflow_sub-bytes
overflow_sub-bytes c = search listing_start

pub overflow_add-at-in-Known : goal.overflow_add-at-in-Known
overflow_add-at-in-Known c = search listing_fits

pub overflow_add-least : goal.overflow_add-least
overflow_add-least c = search listing_tag

pub behind-row-requires-clause-m_bound : goal.behind-row-requires-clause-m_bound
behind-row-requires-clause-m_bound c = search listing_few

pub loop-at-smaller-in-Known : goal.loop-at-smaller-in-Known
loop-at-smaller-in-Known c = search listing_less

pub loop-at-preserved-in-Known : goal.loop-at-preserved-in-Known
loop-at-preserved-in-Known c = (search put_keeps, search listing_known)

pub overflow_add-at-in-Skipped : goal.overflow_add-at-in-Skipped
overflow_add-at-in-Skipped c = search listing_past_fits

pub overflow_add-least-in-Skipped : goal.overflow_add-least-in-Skipped
overflow_add-least-in-Skipped c = search listing_past_tag

pub loop-at-smaller : goal.loop-at-smaller
loop-at-smaller c = search listing_past_less

pub loop-at-preserved : goal.loop-at-preserved
loop-at-preserved c = (search rules, search listing_skipped)

pub returns-clause-ends : goal.returns-clause-ends
returns-clause-ends c = search listing_end
