-- Laws that several proofs cite.
pub mod Parts
pub mod Nexts
pub mod Requireds
pub mod Plain
