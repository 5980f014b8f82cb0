-- The first row of the name, among the table's rows.
use borrow.Author.Rules.{rules}
use mathlib.Core.Bool.{true, false}
use mathlib.Core.Path.{◌≡◌}
use Rattle.std.proofs.lemmas.Iterator.{first_from_Range}
use Rattle.table.specs.Names.{is_named}
use Rattle.table.proofs.Labels.{named_first}
use Rattle.table.proofs.naming.named.Goals as goal

pub returns : goal.returns
returns c =
    named_first _ _ _ c.types.ensures.0 _
    (first_from_Range _ _ _ _ (λ k. is_named c.args.table.now c.args.name.now k ≡ true) (λ k. is_named c.args.table.now c.args.name.now k ≡ false) c.find.ensures.ran
    (λ x q k. search rules) (λ x q k. search rules))
