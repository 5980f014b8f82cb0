-- Laws that several proofs cite.
pub mod Declared
pub mod Lookups
pub mod Heads
pub mod Titles
