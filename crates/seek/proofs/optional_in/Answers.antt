-- After the required members, or nowhere where these are refused.
use borrow.Author.Rules.{rules}
use Rattle.seek.proofs.Seeking.{members_none, members_fit, members_gap, members_spot}
use Rattle.seek.proofs.optional_in.Goals as goal

pub slice_bounds-find_tag-count : goal.slice_bounds-find_tag-count
slice_bounds-find_tag-count c = search (rules, members_fit)

pub slice_bounds-find_tag-start : goal.slice_bounds-find_tag-start
slice_bounds-find_tag-start c = search (rules, members_fit)

pub returns-in-Ok-clause-result_value : goal.returns-in-Ok-clause-result_value
returns-in-Ok-clause-result_value c = search members_gap

pub returns-in-Ok-clause-spot_inside : goal.returns-in-Ok-clause-spot_inside
returns-in-Ok-clause-spot_inside c = search members_spot

pub returns-in-Err-clause-result_value : goal.returns-in-Err-clause-result_value
returns-in-Err-clause-result_value c = search members_none
