-- 3, the proxy's own refusals, 18; then the endpoint.
use borrow.Author.Rules.{rules}
use Rattle.locate.proofs.Locating.{at_long, at_bad, at_more, at_whole}
use Rattle.locate.proofs.judged.Goals as goal

pub returns-in_err-n : goal.returns-in_err-n
returns-in_err-n c = search (rules, at_bad, c.in_err-n.was)

pub returns-then-proxy-gt65536 : goal.returns-then-proxy-gt65536
returns-then-proxy-gt65536 c = search at_long

pub returns-then-n-proxy : goal.returns-then-n-proxy
returns-then-n-proxy c = search (rules, at_more, c.in_ok-n.was)

pub returns : goal.returns
returns c = search (rules, at_whole, c.in_ok-n.was)
