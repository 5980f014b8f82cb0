-- Size and version, then the contents by the version. Assumes nothing.
use Rattle.reader.proofs.Bodies.{body_fault, body_fault_gives, body_six, body_old, body_old_gives, body_new, body_new_gives}
use Rattle.reader.proofs.body.Goals as goal

pub returns-in-Err-clause-value : goal.returns-in-Err-clause-value
returns-in-Err-clause-value c = search body_fault

pub returns-in-Err-clause-out_after : goal.returns-in-Err-clause-out_after
returns-in-Err-clause-out_after c = search body_fault_gives

pub old_contents-requires-clause-in_bounds : goal.old_contents-requires-clause-in_bounds
old_contents-requires-clause-in_bounds c = search body_six

pub returns-then-version-eq1-clause-value : goal.returns-then-version-eq1-clause-value
returns-then-version-eq1-clause-value c = search body_old

pub returns-then-version-eq1-clause-out_after : goal.returns-then-version-eq1-clause-out_after
returns-then-version-eq1-clause-out_after c = search body_old_gives

pub contents-requires-clause-in_bounds : goal.contents-requires-clause-in_bounds
contents-requires-clause-in_bounds c = search body_six

pub returns-clause-value : goal.returns-clause-value
returns-clause-value c = search body_new

pub returns-clause-out_after : goal.returns-clause-out_after
returns-clause-out_after c = search body_new_gives
