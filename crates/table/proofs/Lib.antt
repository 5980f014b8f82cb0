-- Laws that several proofs cite.
pub mod Places
pub mod Ranges
pub mod ByKind
pub mod Labels
pub mod Chains
pub mod Searches
