-- Every promise of `FrostDemands`; `FrostPromised` in proofs/ joins each to its proof.
use Rattle.frost.specs.FrostDemands.{FrostTable, FrostJudges, StateJudged, FrostReport, FrostRefuses, FrostHistory, FrostState, FrostRefused, FrostNumbers, FoundersStory, LargestLong, StateKept, BytesReport, BytesRefused, FrostTold, StateGiven, SignedOrder}

pub record FrostPromises : Type 0 where
  pub table : FrostTable
  pub judges : FrostJudges
  pub state_judged : StateJudged
  pub one : FrostReport
  pub refuses : FrostRefuses
  pub history : FrostHistory
  pub state : FrostState
  pub refused : FrostRefused
  pub numbers : FrostNumbers
  pub story : FoundersStory
  pub largest : LargestLong
  pub kept : StateKept
  pub bytes : BytesReport
  pub no_state_lem : BytesRefused
  pub told : FrostTold
  pub given : StateGiven
  pub signed : SignedOrder
