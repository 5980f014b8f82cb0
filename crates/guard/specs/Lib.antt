-- The state of the frost guard as bytes, as the code has it.
pub mod Bytes
