-- A member that there is has the type that its row says.
use borrow.Author.Rules.{rules}
use Rattle.optional.proofs.Lookups.{type_here, type_past}
use Rattle.optional.proofs.type_of.Goals as goal

pub returns-then-m-all : goal.returns-then-m-all
returns-then-m-all c = search (rules, type_here, type_past)

pub returns-else-m-all : goal.returns-else-m-all
returns-else-m-all c = search (rules, type_here, type_past)
