-- What a walk over a message is given besides the table.
pub mod OldUse
pub mod Takes
pub mod Listing
pub mod Seats
