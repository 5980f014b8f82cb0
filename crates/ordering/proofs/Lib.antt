-- Laws that several proofs cite.
pub mod Naming
pub mod Placing
pub mod Tagging
