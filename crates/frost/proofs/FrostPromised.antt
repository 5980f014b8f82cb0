-- Each promise of `FrostPromises` joined to its proof.
use Rattle.frost.proofs.FrostLaws.{frost_history, frost_refused, frost_numbers, state_kept, signed_order}
use Rattle.frost.proofs.FrostRows.{table_is, table_sound}
use Rattle.frost.proofs.FrostJudged.{frost_judges, state_judged, founders_story, largest_long, bytes_report, bytes_refused, frost_told}
use Rattle.frost.proofs.FrostGiven.{frost_report, frost_refuses, frost_state, state_given}
use Rattle.frost.specs.FrostPromises.{FrostPromises}

pub promises : FrostPromises
promises = record {
  table = record { is_p2 = table_is; sound = table_sound };
  judges = frost_judges;
  state_judged = state_judged;
  one = frost_report;
  refuses = frost_refuses;
  history = frost_history;
  state = frost_state;
  refused = frost_refused;
  numbers = frost_numbers;
  story = founders_story;
  largest = largest_long;
  kept = state_kept;
  bytes = bytes_report;
  no_state_lem = bytes_refused;
  told = frost_told;
  given = state_given;
  signed = signed_order;
}
