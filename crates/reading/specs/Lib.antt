-- What the reader's calls answer of a walk over a message.
pub mod Told
pub mod Numbers
pub mod Optionless
