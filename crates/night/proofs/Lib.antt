-- Laws that the proofs of the walk cite.
pub mod Stepping
pub mod Walking
pub mod NightFits
pub mod NightLaws
pub mod NightProofs
pub mod StopLaws
pub mod NightPromised
