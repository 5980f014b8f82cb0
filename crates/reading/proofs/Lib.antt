-- Laws that the proofs of the calls cite.
pub mod Telling
pub mod Numbering
