-- Facets, then the mode and the rest.
use borrow.Author.Rules.{rules}
use Rattle.wire.specs.StepLaws.{took_held}
use Rattle.wire.proofs.Sums.{any_later_fits}
use Rattle.encoding.specs.Proxy.{facets as facets-of}
use Rattle.proxy.specs.Parts.{mode as Mode-of}
use Rattle.proxy.proofs.Laws.{held_facets, held_mode, reference_rest, reference_none}
use Rattle.proxy.proofs.reference.Goals as goal

pub returns-in_err-n : goal.returns-in_err-n
returns-in_err-n c = search (rules, reference_none, c.in_err-n.was)

pub slice_bounds-mode-count : goal.slice_bounds-mode-count
slice_bounds-mode-count c = search (rules, took_held facets-of held_facets, c.in_ok-n.was)

pub slice_bounds-mode-start : goal.slice_bounds-mode-start
slice_bounds-mode-start c = search (rules, took_held facets-of held_facets, c.in_ok-n.was)

pub later-requires : goal.later-requires
later-requires c = search (rules, any_later_fits Mode-of held_mode, took_held facets-of held_facets, c.in_ok-n.was)

pub returns : goal.returns
returns c = search (rules, reference_rest, c.in_ok-n.was)
