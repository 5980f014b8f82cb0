-- The laws that the proofs of `old` share.
pub mod Laws
