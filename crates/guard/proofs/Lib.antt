-- Laws that the proofs of the guard's state cite.
pub mod Numbering
pub mod Storing
