-- The loop's invariant: the messages left decide the answer. Assumes nothing.
use Rattle.std.proofs.Common.{◌*◌}
use Rattle.bursts.proofs.Looking.{Seeking}
use Rattle.bursts.proofs.too_long.Given as goal

abbrev pub invariant-loop-turn : goal.invariant-loop-turn
invariant-loop-turn l = Seeking l.messages (2 * l.turn)
