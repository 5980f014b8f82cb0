-- By the number of endpoints.
use borrow.Author.Rules.{rules}
use Rattle.locate.proofs.Locating.{spot_bad, spot_end, spot_none, spot_there}
use Rattle.locate.proofs.spot_at.Goals as goal

pub returns-in_err-endpoints : goal.returns-in_err-endpoints
returns-in_err-endpoints c = search (rules, spot_bad, c.in_err-endpoints.was)

pub returns-then-endpoints-i : goal.returns-then-endpoints-i
returns-then-endpoints-i c = search (rules, spot_none, c.in_ok-endpoints.was)

pub passed-requires : goal.passed-requires
passed-requires c = search (rules, spot_end, c.in_ok-endpoints.was)

pub returns : goal.returns
returns c = search (rules, spot_there, c.in_ok-endpoints.was)
