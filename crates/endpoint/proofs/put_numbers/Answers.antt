-- Numbers put one after another.
use borrow.Author.Rules.{rules}
use Rattle.endpoint.proofs.Openings.{ints_begin, ints_turn, ints_end}
use Rattle.endpoint.proofs.put_numbers.Goals as goal

pub loop-i-init : goal.loop-i-init
loop-i-init c = search ints_begin

pub loop-i-preserved : goal.loop-i-preserved
loop-i-preserved c = search (rules, ints_turn)

pub returns : goal.returns
returns c = search (rules, ints_end)
