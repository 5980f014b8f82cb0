-- Every promise of `LocateDemands`, with its proof.
use Rattle.locate.specs.LocateDemands.{LocateRefused, LocateThere}
use Rattle.locate.specs.LocateLaws.{locate_refused, locate_there}

-- all promises together
pub record Promises : Type 0 where
  pub refuses : LocateRefused
  pub located : LocateThere

-- and their proofs
pub promises : Promises
promises = record {
  refuses = locate_refused;
  located = locate_there;
}
