-- Laws that several proofs cite.
pub mod Pairing
pub mod Telling
