-- Laws that several proofs cite.
pub mod Groups
pub mod Names
pub mod Fronts
pub mod Walks
pub mod Writings
