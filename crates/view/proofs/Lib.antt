-- Laws that the proofs cite.
pub mod Seeing
pub mod Numbering
