-- An adapter where there is no endpoint, else the endpoints.
use borrow.Author.Rules.{rules}
use Rattle.proxy.proofs.Laws.{addresses_text, addresses_list}
use Rattle.proxy.proofs.addresses.Goals as goal

pub returns-then-n-eq0 : goal.returns-then-n-eq0
returns-then-n-eq0 c = search addresses_text

pub returns : goal.returns
returns c = search addresses_list
