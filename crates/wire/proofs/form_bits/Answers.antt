-- The range of the form's number gives its bits.
use borrow.Author.Rules.{rules}
use Rattle.wire.proofs.Bits.{form_bare, form_counted, form_sized}
use Rattle.wire.proofs.form_bits.Goals as goal

pub returns-then-form-lt8 : goal.returns-then-form-lt8
returns-then-form-lt8 c = search (rules, form_bare, form_counted, form_sized)

pub returns-then-form-lt10 : goal.returns-then-form-lt10
returns-then-form-lt10 c = search (rules, form_bare, form_counted, form_sized)

pub returns : goal.returns
returns c = search (rules, form_bare, form_counted, form_sized)
