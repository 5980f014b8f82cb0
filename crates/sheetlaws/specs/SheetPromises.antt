-- Every promise of `SheetDemands`, with its proof.
use Rattle.sheetlaws.specs.SheetDemands.{SheetSum, SheetExtremes, SheetCounts, SheetSplit, SheetJoin, FiftyThree, SheetRefused, SheetGiven, NeverAmiss, MeanExact, MeanThere, SheetFits, SheetStays, BytesBack, BytesCall}
use Rattle.sheetlaws.specs.SheetProofs.{sheet_split, sheet_join, fifty_three, never_amiss, mean_exact, mean_is_there, sheet_fits, sheet_stays, bytes_call}
use Rattle.sheetlaws.specs.SheetValues.{sheet_sum, sheet_extremes}
use Rattle.sheetlaws.specs.SheetCounted.{sheet_counts}
use Rattle.sheetlaws.specs.SheetRefusals.{sheet_refused, sheet_given}
use Rattle.sheetlaws.specs.SheetBack.{bytes_back}

-- all promises together
pub record SheetPromises : Type 0 where
  pub sum : SheetSum
  pub extremes : SheetExtremes
  pub counts : SheetCounts
  pub split : SheetSplit
  pub join : SheetJoin
  pub sound : FiftyThree
  pub refused : SheetRefused
  pub given : SheetGiven
  pub never : NeverAmiss
  pub mean : MeanExact
  pub there : MeanThere
  pub fits : SheetFits
  pub stays : SheetStays
  pub back : BytesBack
  pub bytes : BytesCall

-- and their proofs
pub sheet_promises : SheetPromises
sheet_promises = record {
  sum = sheet_sum;
  extremes = sheet_extremes;
  counts = sheet_counts;
  split = sheet_split;
  join = sheet_join;
  sound = fifty_three;
  refused = sheet_refused;
  given = sheet_given;
  never = never_amiss;
  mean = mean_exact;
  there = mean_is_there;
  fits = sheet_fits;
  stays = sheet_stays;
  back = bytes_back;
  bytes = bytes_call;
}
