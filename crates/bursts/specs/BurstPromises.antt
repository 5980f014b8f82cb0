-- Every promise of `BurstDemands`; `BurstPromised` in proofs/ joins each to its proof.
use Rattle.bursts.specs.BurstDemands.{PairsRead, PlanChecked, PlanPlaced, NoEmptyBurst, PlanPasses, PlanRefused, PlanThrifty, PlanListed}

pub record BurstPromises : Type 0 where
  pub pairs : PairsRead
  pub checked : PlanChecked
  pub placed : PlanPlaced
  pub empty : NoEmptyBurst
  pub passes : PlanPasses
  pub refused : PlanRefused
  pub thrifty : PlanThrifty
  pub listed : PlanListed
