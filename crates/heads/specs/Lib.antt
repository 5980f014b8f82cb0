-- What the contracts of `heads` cite besides the definitions of the encoding.
pub mod Stages
