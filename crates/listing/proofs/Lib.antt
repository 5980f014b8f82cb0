-- Laws that several proofs cite.
pub mod Entering
pub mod Walking
