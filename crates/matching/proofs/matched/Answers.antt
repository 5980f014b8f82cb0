-- A record is set against its partner. Assumes nothing.
use Rattle.matching.proofs.Judging.{matched_none, matched_few, matched_partner, matched_is, row_small, partner_small}
use Rattle.matching.proofs.matched.Goals as goal

pub matched_by-requires-clause-t_bound : goal.matched_by-requires-clause-t_bound
matched_by-requires-clause-t_bound c = (search row_small, search partner_small, search matched_few, search matched_partner)

pub returns-then-is_record : goal.returns-then-is_record
returns-then-is_record c = search matched_is

pub returns : goal.returns
returns c = search matched_none
