-- Five parts put one after another.
use borrow.Author.Rules.{rules}
use Rattle.endpoint.proofs.Writings.{head_put}
use Rattle.endpoint.proofs.writes.put_head.Goals as goal

pub returns : goal.returns
returns c = search (rules, head_put)
