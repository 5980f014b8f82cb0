-- The judgements in their order; the type of a known tag's member gives its type bits.
use borrow.Author.Rules.{rules}
use Rattle.optional.proofs.Heads.{head_none, head_early, head_unknown, head_known, head_other}
use Rattle.optional.proofs.headers.header.Goals as goal

pub returns-in_err-front : goal.returns-in_err-front
returns-in_err-front c = search (rules, head_none, c.in_err-front.was)

pub returns-then-wrong-ne0 : goal.returns-then-wrong-ne0
returns-then-wrong-ne0 c = search (head_early, c.in_ok-front.was)

pub returns-then-front-form_bits : goal.returns-then-front-form_bits
returns-then-front-form_bits c = search (head_other, c.in_ok-front.was)

pub returns-else-front-form_bits : goal.returns-else-front-form_bits
returns-else-front-form_bits c = search (head_known, c.in_ok-front.was)

pub returns-in-None : goal.returns-in-None
returns-in-None c = search (head_unknown, c.in_ok-front.was)
