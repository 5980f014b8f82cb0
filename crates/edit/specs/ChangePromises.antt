-- Each promise of `ChangeDemands`; `ChangePromised` in proofs/ joins each to its proof.
use Rattle.edit.specs.ChangeDemands.{Others, ChangedHere, ChangedNewer, ChangedAlike, ChangedReading, SetAgain, SetUndone, NotOfChain, OldChange, ChangeRefused, ChangeMade, ChangeTooLong, ChangeTold, ChangeFilled}

-- all promises together
pub record ChangePromises : Type 0 where
  pub others : Others
  pub here : ChangedHere
  pub newer : ChangedNewer
  pub alike : ChangedAlike
  pub newer_answer : ChangedReading
  pub again : SetAgain
  pub undone : SetUndone
  pub chain : NotOfChain
  pub of_old : OldChange
  pub refuses : ChangeRefused
  pub makes : ChangeMade
  pub long : ChangeTooLong
  pub told : ChangeTold
  pub filled : ChangeFilled
