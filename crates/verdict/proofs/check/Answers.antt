-- The finding as a verdict: its class and its place fit 32 bits. Assumes nothing.
use Rattle.verdict.proofs.Telling.{told_sound, told_broken}
use Rattle.verdict.proofs.check.Goals as goal

pub returns-in-Ok : goal.returns-in-Ok
returns-in-Ok c = search told_sound

pub returns-in-Err : goal.returns-in-Err
returns-in-Err c = search told_broken
