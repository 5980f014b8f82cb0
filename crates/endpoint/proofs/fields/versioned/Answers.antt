-- The version, then the fields.
use borrow.Author.Rules.{rules}
use Rattle.endpoint.proofs.Laws.{versioned_cut, versioned_other, versioned_fit, versioned_are}
use Rattle.endpoint.proofs.fields.versioned.Goals as goal

pub returns-then-s-lt2 : goal.returns-then-s-lt2
returns-then-s-lt2 c = search versioned_cut

pub returns-then-short_at-ne257 : goal.returns-then-short_at-ne257
returns-then-short_at-ne257 c = search versioned_other

pub later-requires : goal.later-requires
later-requires c = search (rules, versioned_fit)

pub returns : goal.returns
returns c = rw c.later.ensures (search (rules, versioned_are))
