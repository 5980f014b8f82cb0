-- What the code finds of one character and of bytes below 128.
pub mod Characters
