-- Laws that the proofs of the check and the planner cite.
pub mod Looking
pub mod Putting
pub mod Judging
pub mod BurstCounts
pub mod BurstLaws
pub mod BurstPlans
pub mod PairLaws
pub mod RunningLaws
pub mod BurstPromised
