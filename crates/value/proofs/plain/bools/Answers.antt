-- Bools one after another, the first of them judged together. The loop keeps: what is still to be read makes the whole answer. Assumes nothing.
use native.Mathlib.Omega.{arith}
use mir.Syntax.{w64}
use mir.Val.{Fits}
use Rattle.std.proofs.Common.{◌+◌}
use Rattle.encoding.specs.Number.{bool as bool-of}
use Rattle.encoding.proofs.NumberLaws.{held_bool}
use Rattle.wire.specs.StepLaws.{each_next, each_fault, each_done}
use Rattle.wire.proofs.Sums.{took_fits, bad_fits}
use Rattle.value.proofs.BoolLaws.{bools_begin}
use Rattle.value.proofs.plain.bools.Goals as goal

pub loop-init : goal.loop-init
loop-init c = search bools_begin

pub overflow_add-at : goal.overflow_add-at
overflow_add-at c = search (took_fits bool-of held_bool)

pub behind-requires : goal.behind-requires
behind-requires c =
    let h : Fits w64 (c.loop.at + c.in-Err.refusal.place) = search (bad_fits bool-of held_bool) in
    omega (arith, h.fits)

pub returns-in-Err : goal.returns-in-Err
returns-in-Err c = rw c.behind.ensures (search (each_fault bool-of held_bool))

pub loop-preserved : goal.loop-preserved
loop-preserved c = search (each_next bool-of held_bool)

pub returns : goal.returns
returns c = search (each_done bool-of held_bool)
