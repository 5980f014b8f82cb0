-- What the contracts of `rules` cite beside the definitions of the encoding.
pub mod Checks
pub mod ChecksLaws
