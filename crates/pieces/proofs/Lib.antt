-- Laws that several proofs cite.
pub mod Reaches
pub mod Parts
pub mod Judges
pub mod Copies
pub mod Fields
