-- What `prepare` checks, and what that says of reading and writing.
pub mod Preparing
pub mod PreparingLaws
