-- Laws that several proofs cite.
pub mod Listing
pub mod Bodies
pub mod OldListing
pub mod Plainly
