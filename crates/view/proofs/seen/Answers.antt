-- Each case returns what `seen_bytes` says; a part lies in the message. Assumes nothing.
use native.Mathlib.Omega.{arith}
use Rattle.view.proofs.Seeing.{part_seen, fallback_seen, nothing_seen, refused_seen}
use Rattle.view.proofs.seen.Goals as goal

pub overflow_add-e : goal.overflow_add-e
overflow_add-e c = omega (arith, c.look-v.ensures.part_inside.inside _ _ c.in-Part.is)

pub slice_bounds-result-end : goal.slice_bounds-result-end
slice_bounds-result-end c = omega (arith, c.look-v.ensures.part_inside.inside _ _ c.in-Part.is)

pub returns-in-Part : goal.returns-in-Part
returns-in-Part c = search part_seen

pub returns-in-Fallback : goal.returns-in-Fallback
returns-in-Fallback c = search fallback_seen

pub returns-in-Nothing : goal.returns-in-Nothing
returns-in-Nothing c = search nothing_seen

pub returns-in-Refused : goal.returns-in-Refused
returns-in-Refused c = search refused_seen
