-- Base, required members, optional members. Assumes nothing.
use Rattle.listing.proofs.Walking.{owner_first, owner_second, owner_third, owner_listed}
use borrow.Author.Rules.{rules}
use Rattle.listing.proofs.owners.owners.Goals as goal

pub bases-i-requires-clause-t_bound : goal.bases-i-requires-clause-t_bound
bases-i-requires-clause-t_bound c = (search rules, search rules, search owner_first)

pub required-j-requires-clause-t_bound : goal.required-j-requires-clause-t_bound
required-j-requires-clause-t_bound c = (search rules, search rules, search owner_second)

pub optionals-requires-clause-u_bound : goal.optionals-requires-clause-u_bound
optionals-requires-clause-u_bound c = owner_third _ _ _ _ _ (search rules) _ _ _ c.bases-i.ensures _ _ c.required-j.ensures

pub returns-clause-listed : goal.returns-clause-listed
returns-clause-listed c = owner_listed _ _ _ _ _ c.requires.u_bound _ _ _ c.bases-i.ensures _ _ c.required-j.ensures _ _ c.optionals.ensures.listed
