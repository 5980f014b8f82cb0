-- Laws that several proofs cite.
pub mod Seeking
