-- What the contracts of `writer` cite besides the definitions of the encoding, and the laws of it.
pub mod Slices
pub mod Messages
pub mod Gathers
pub mod MessagesLaws
