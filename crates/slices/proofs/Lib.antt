-- Laws that several proofs cite.
pub mod Steps
pub mod Endings
pub mod Walking
