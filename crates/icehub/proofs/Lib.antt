-- Laws that the proofs of the exported calls cite.
pub mod Comparing
pub mod Counted
pub mod Guarding
pub mod Seasonal
