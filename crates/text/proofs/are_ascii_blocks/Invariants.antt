-- What was tested is below 128; the last thirty-two bytes cover the rest.
use Rattle.text.specs.Characters.{Tested}
use Rattle.text.proofs.are_ascii_blocks.Given as goal

abbrev pub invariant-loop-i : goal.invariant-loop-i
invariant-loop-i l = Tested l.s l.from l.to l.i
