-- Each promise of `ChangePromises` joined to its proof.
use Rattle.edit.proofs.TargetLaws.{not_of_chain}
use Rattle.edit.proofs.HereLaws.{others_kept, changed_here}
use Rattle.edit.proofs.AgainLaws.{set_again, set_undone, old_change, change_refused, change_made, change_too_long, change_told, change_filled}
use Rattle.edit.proofs.EditNewer.{changed_newer, changed_alike, changed_reading}
use Rattle.edit.specs.ChangePromises.{ChangePromises}

-- and their proofs
pub change_promises : ChangePromises
change_promises = record {
  others = others_kept;
  here = changed_here;
  newer = changed_newer;
  alike = changed_alike;
  newer_answer = changed_reading;
  again = set_again;
  undone = set_undone;
  chain = not_of_chain;
  of_old = old_change;
  refuses = change_refused;
  makes = change_made;
  long = change_too_long;
  told = change_told;
  filled = change_filled;
}
